use Rattle.std.proofs.Common.{[], ◌∷◌}
use Rattle.keyed_files.specs.Rows.{change_name}
use Rattle.keyed_files.proofs.WritingLemmas.{then-cells, then-end}
use Rattle.keyed_files.proofs.written.Written.put_change_heading.Goals as goal

pub returns : goal.returns
returns c =
    then-end _ _ _ (change_name ∷ c.args.marked.now)
    (then-cells _ _ _ (change_name ∷ []) c.args.marked.now c.in_ok-put_cell.ensures c.in_ok-put.ensures) c.in_ok-end_row.ensures
