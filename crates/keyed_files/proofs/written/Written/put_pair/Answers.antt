use Rattle.std.proofs.Common.{◌++◌}
use Rattle.std.specs.Prelude.{option_map}
use Rattle.keyed_columns.specs.Placed.{first_cells}
use Rattle.keyed_files.specs.JoinedRows.{left_of, right_of, side_row}
use Rattle.keyed_files.proofs.WritingLemmas.{then-cells, then-end}
use Rattle.keyed_files.proofs.written.Written.put_pair.Goals as goal

pub returns : goal.returns
returns c =
    let first = first_cells (option_map (λ cell. cell.now) c.args.sides.first) in
    let key = c.args.key.now in
    let left = side_row (left_of c.args.sides) c.args.left c.args.columns.now.left.rest in
    let right = side_row (right_of c.args.sides) c.args.right c.args.columns.now.right.rest in
    then-end _ _ _ (((first ++ key) ++ left) ++ right)
    (then-cells _ _ _ ((first ++ key) ++ left) right
    (then-cells _ _ _ (first ++ key) left (then-cells _ _ _ first key c.in_ok-put_first.ensures c.in_ok-put_key.ensures) c.in_ok-put_side.ensures)
    c.in_ok-put_side-2.ensures)
    c.in_ok-end_row.ensures
