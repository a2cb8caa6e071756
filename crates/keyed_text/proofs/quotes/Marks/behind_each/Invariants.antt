use Rattle.std.proofs.Common.{◌≡◌, drop}
use Rattle.keyed_text.specs.Quotes.{place_behind}
use Rattle.keyed_text.proofs.quotes.Marks.behind_each.Given as goal

abbrev pub invariant-loop-byte : goal.invariant-loop-byte
invariant-loop-byte l = place_behind l.self l.place (drop l.byte-index l.bytes) ≡ place_behind l.fn.self l.fn.place l.fn.bytes
