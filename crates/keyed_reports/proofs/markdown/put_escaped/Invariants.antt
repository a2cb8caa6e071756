use Rattle.std.proofs.Common.{◌≡◌, ◌++◌, take}
use Rattle.std.specs.List.{flat_map}
use Rattle.keyed_reports.specs.Escapes.{markdown_byte}
use Rattle.keyed_reports.proofs.markdown.put_escaped.Given as goal

abbrev pub invariant-loop-byte : goal.invariant-loop-byte
invariant-loop-byte l = l.text.items ≡ l.fn.text.items ++ flat_map markdown_byte (take l.byte-index l.bytes)
