use Rattle.std.proofs.Common.{◌++◌}
use Rattle.std.specs.Prelude.{option_map}
use Rattle.keyed_columns.specs.Placed.{first_cells, placed}
use Rattle.keyed_files.proofs.WritingLemmas.{then-cells, then-end}
use Rattle.keyed_files.proofs.written.Written.put_row.Goals as goal

pub returns : goal.returns
returns c =
    let first = first_cells (option_map (λ cell. cell.now) c.args.first) in
    let others = placed c.args.order.now c.args.key.now c.args.rest.now in
    then-end _ _ _ (first ++ others) (then-cells _ _ _ first others c.in_ok-put_first.ensures c.in_ok-put_placed.ensures) c.in_ok-end_row.ensures
