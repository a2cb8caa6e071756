use Rattle.std.proofs.Common.{◌≡◌, take}
use Rattle.std.specs.Prelude.{map}
use Rattle.keyed_rows.specs.Layout.{code}
use Rattle.keyed_rows.proofs.cells.Cells.from_slices.Given as goal

abbrev pub invariant-loop-cell : goal.invariant-loop-cell
invariant-loop-cell l = l.block.items ≡ code (map (λ cell. cell.now) (take l.cell-index l.cells))
