use Rattle.std.proofs.Common.{◌≡◌, ◌++◌, ℕ, List, drop}
use Rattle.keyed_text.specs.TextStyles.{style_with}
use Rattle.keyed_text.proofs.style_notes.StyleNotes.take.Given as goal

abbrev pub invariant-loop-byte : goal.invariant-loop-byte
invariant-loop-byte l = l.fn.self.skipped ≡ 0 → (l.self.skipped ≡ 0)
    × ((rest : List ℕ) → style_with l.self (drop l.byte-index l.bytes ++ rest) ≡ style_with l.fn.self (l.fn.bytes ++ rest))
