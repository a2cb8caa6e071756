use Rattle.std.proofs.Common.{◌≡◌, refl, rules, true}
use Rattle.std.specs.Prelude.{not}
use Rattle.eob_joins.specs.Cells.{cells_clash, same_length}
use Rattle.keyed_tables.specs.RowsByCell.{cell_eq}
use Rattle.keyed_tables.proofs.CellRowLemmas.{merged_map}
use Rattle.keyed_tables.proofs.by_cell.merge_rows.Goals as goal

pub returns-in_ok-merged_cells : goal.returns-in_ok-merged_cells
returns-in_ok-merged_cells c =
    let same : same_length c.args.base.now c.args.ours.now c.args.theirs.now ≡ true = search rules in
    let free : not (cells_clash cell_eq c.args.base.now c.args.ours.now c.args.theirs.now) ≡ true = search rules in
    (rw (same, free) refl, merged_map c.args.base.now c.args.ours.now c.args.theirs.now c.in_ok-merged_cells.field-0 same c.in_ok-merged_cells.ensures)
