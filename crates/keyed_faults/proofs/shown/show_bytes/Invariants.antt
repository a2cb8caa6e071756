use Rattle.std.proofs.Common.{take}
use Rattle.std.specs.Fmt.{IsPlainFormatter}
use Rattle.keyed_faults.specs.ShownCells.{HasShown}
use Rattle.keyed_faults.proofs.shown.show_bytes.Given as goal

abbrev pub invariant-loop-byte : goal.invariant-loop-byte
invariant-loop-byte g l = IsPlainFormatter l.fn.f → HasShown g.W.Write.write_str_gives l.fn.f (take l.byte-index l.bytes) l.f
