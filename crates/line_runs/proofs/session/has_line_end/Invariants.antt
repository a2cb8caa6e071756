use Rattle.std.proofs.Common.{◌≡◌, false, take}
use Rattle.line_runs.specs.Session.{HasNoEnd}
use Rattle.line_runs.proofs.session.has_line_end.Given as goal

-- no line ends in the bytes so far, unless one was found
abbrev pub invariant-loop-byte : goal.invariant-loop-byte
invariant-loop-byte l = l.found ≡ false → HasNoEnd (take l.byte-index l.block)
