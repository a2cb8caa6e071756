use Rattle.std.proofs.Common.{◌≡◌, ◌≤◌, take}
use Rattle.keyed_lines.specs.Lines.{joined}
use Rattle.keyed_lines.proofs.lines.lines_of.Given as goal

-- the lines that are put are the text up to the last line that is begun
abbrev pub invariant-loop-place : goal.invariant-loop-place
invariant-loop-place l = (joined l.lines.items ≡ take l.begin l.text) × (l.begin ≤ l.place)
