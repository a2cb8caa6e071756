use Rattle.std.proofs.Common.{◌≡◌, ◌++◌, take}
use Rattle.std.specs.List.{flat_map}
use Rattle.keyed_reports.specs.Escapes.{html_byte}
use Rattle.keyed_reports.proofs.html.put_escaped.Given as goal

abbrev pub invariant-loop-byte : goal.invariant-loop-byte
invariant-loop-byte l = l.text.items ≡ l.fn.text.items ++ flat_map html_byte (take l.byte-index l.bytes)
