use Rattle.either_or_both.specs.Prelude.{left_place, right_place}
use Rattle.keyed_files.specs.declared.sign.Sign.TheVariants.{Minus, Plus}
use Rattle.keyed_files.proofs.WritingLemmas.{then-rows}
use Rattle.keyed_jobs.specs.ChangeRows.{version_rows}
use Rattle.keyed_jobs.proofs.changes.put_change.Goals as goal

pub returns : goal.returns
returns c =
    let order = c.args.columns.now.order.items in
    then-rows _ _ _ (version_rows Minus order c.args.key.now (left_place c.args.change.now)) (version_rows Plus order c.args.key.now (right_place c.args.change.now))
    (rw c.old_rows.ensures at c.in_ok-put_version.ensures) (rw c.new_rows.ensures at c.in_ok-put_version-2.ensures)
