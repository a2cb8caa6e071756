use Rattle.std.proofs.Common.{[], ◌∷◌}
use Rattle.keyed_files.specs.Rows.{shown_sign}
use Rattle.keyed_files.proofs.WritingLemmas.{then-cells, then-end}
use Rattle.keyed_commands.proofs.commands.row_diff.put_signed.Goals as goal

pub returns : goal.returns
returns c =
    then-end _ _ _ (shown_sign c.args.sign ∷ c.args.row.now)
    (then-cells _ _ _ (shown_sign c.args.sign ∷ []) c.args.row.now (rw c.cell.ensures at c.in_ok-put_cell.ensures) c.in_ok-put.ensures) c.in_ok-end_row.ensures
