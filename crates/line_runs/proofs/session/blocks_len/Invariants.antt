use Rattle.std.proofs.Common.{◌≤◌, ◌-◌, length, take}
use Rattle.line_runs.specs.Session.{HasNoEnd}
use Rattle.line_runs.proofs.session.blocks_len.Given as goal

-- no line ends in the blocks so far
abbrev pub invariant-loop-len : goal.invariant-loop-len
invariant-loop-len l = (l.len ≤ length l.bytes) × HasNoEnd (take l.len l.bytes)

abbrev pub decreases-loop-len : goal.decreases-loop-len
decreases-loop-len l = length l.bytes - l.len
