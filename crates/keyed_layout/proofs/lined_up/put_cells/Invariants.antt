use Rattle.std.proofs.Common.{map, string_bytes, take}
use Rattle.keyed_layout.specs.Lines.{AreSpaced, Puts}
use Rattle.keyed_layout.proofs.lined_up.put_cells.Given as goal

abbrev pub invariant-loop-cell : goal.invariant-loop-cell
invariant-loop-cell l = Puts (AreSpaced (map string_bytes (take l.cell-index l.fn.line.cells.items))) (string_bytes l.fn.text) (string_bytes l.text)
