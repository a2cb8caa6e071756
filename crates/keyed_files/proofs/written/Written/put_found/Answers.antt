use Rattle.std.proofs.Common.{◌++◌}
use Rattle.std.specs.Prelude.{option_map}
use Rattle.keyed_columns.specs.Placed.{placed}
use Rattle.keyed_files.specs.FoundRows.{found_cells}
use Rattle.keyed_files.proofs.WritingLemmas.{then-cells, then-end}
use Rattle.keyed_files.proofs.written.Written.put_found.Goals as goal

pub returns : goal.returns
returns c =
    let row = placed c.args.columns.now.left.order.items c.args.key.now c.args.rest.now in
    let found = found_cells c.args.columns.now (option_map (λ cells. cells.now) c.args.found) in
    then-end _ _ _ (row ++ found) (then-cells _ _ _ row found (rw c.deref.ensures.value at c.in_ok-put_placed.ensures) c.in_ok-put_found_cells.ensures) c.in_ok-end_row.ensures
