use Rattle.std.proofs.Common.{◌≡◌, ◌≤◌, length}
use Rattle.keyed_text.specs.Quotes.{place_behind}
use Rattle.keyed_text.proofs.quotes.Marks.behind.Given as goal

abbrev pub invariant-quotes : goal.invariant-quotes
invariant-quotes l = (place_behind l.self l.place l.rest ≡ place_behind l.fn.self l.fn.place l.fn.bytes) × (length l.rest ≤ length l.fn.bytes)

abbrev pub decreases-quotes : goal.decreases-quotes
decreases-quotes l = length l.rest
