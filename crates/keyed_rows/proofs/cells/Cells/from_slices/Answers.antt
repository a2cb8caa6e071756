use Rattle.std.proofs.Common.{◌∙◌, ap}
use Rattle.std.specs.Prelude.{map}
use Rattle.std.proofs.lemmas.List.{take_all}
use Rattle.keyed_rows.proofs.Facts.{cells_of_is, code_none, code_taken, is_block_of}
use Rattle.keyed_rows.proofs.cells.Cells.from_slices.Goals as goal

pub loop-cell-init : goal.loop-cell-init
loop-cell-init c = c.in_ok-block.ensures.items ∙ code_none

pub loop-cell-preserved : goal.loop-cell-preserved
loop-cell-preserved c =
    code_taken (λ cell. cell.now) c.args.cells.now c.loop-cell.cell-index _ c.loop-cell-test.true c.loop-cell.invariant c.in_ok-append.ensures.put

pub invariant_of-result : goal.invariant_of-result
invariant_of-result c = is_block_of _ _ c.loop-cell.invariant c.count_fits.ensures

pub returns : goal.returns
returns c =
    cells_of_is _ _ c.loop-cell.invariant c.count_fits.ensures ∙ ap (map (λ cell. cell.now)) (take_all c.loop-cell.cell-index c.args.cells.now c.loop-cell-test.false)
