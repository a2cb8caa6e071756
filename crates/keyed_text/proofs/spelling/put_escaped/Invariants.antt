use Rattle.std.proofs.Common.{◌≡◌, ◌++◌, drop}
use Rattle.csv.specs.Writing.{default_writer, escaped}
use Rattle.keyed_text.proofs.spelling.put_escaped.Given as goal

abbrev pub invariant-loop-byte : goal.invariant-loop-byte
invariant-loop-byte l = l.text.items ++ escaped default_writer (drop l.byte-index l.cell) ≡ l.fn.text.items ++ escaped default_writer l.cell
