use Rattle.std.proofs.Common.{string_bytes, take}
use Rattle.keyed_layout.specs.Lines.{AreLinedUp}
use Rattle.keyed_layout.proofs.lined_up.line_up.Given as goal

abbrev pub invariant-loop-line : goal.invariant-loop-line
invariant-loop-line l = AreLinedUp (take l.line-index l.fn.grid) (string_bytes l.text)
