use Rattle.keyed_columns.specs.Placed.{placed}
use Rattle.keyed_files.proofs.WritingLemmas.{then-end}
use Rattle.keyed_files.proofs.written.Written.put_lone.Goals as goal

pub returns : goal.returns
returns c =
    then-end _ _ _ (placed c.args.columns.now.order.items c.args.key.now c.args.rest.now) (rw c.deref.ensures.value at c.in_ok-put_placed.ensures) c.in_ok-end_row.ensures
