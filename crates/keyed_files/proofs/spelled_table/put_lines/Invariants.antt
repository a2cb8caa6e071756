use Rattle.std.proofs.Common.{◌≡◌, ◌++◌, drop}
use Rattle.keyed_text.specs.Spelling.{blank_lines}
use Rattle.keyed_files.proofs.spelled_table.put_lines.Given as goal

abbrev pub invariant-loop-end : goal.invariant-loop-end
invariant-loop-end l = l.text.items ++ blank_lines (drop l.end-index l.ends) ≡ l.fn.text.items ++ blank_lines l.ends
