-- What the lines of a text are answered.
use Rattle.std.specs.Prelude.{ℕ, List, [], ◌∷◌, ◌++◌, ◌≡◌, ◌+◌, ◌-◌, ◌^◌, min, Bool, false, ◌||◌}

-- of the number of a line, the line and a text: the text answers the line, which is bad or is not
abbrev pub Answering : Type 1
Answering = ℕ → List ℕ → List ℕ → Bool → Type 0

-- the number of the line after some lines: counting stays at the greatest number of 64 bits
abbrev pub number_after : ℕ → ℕ
number_after before = min (before + 1) (2 ^ 64 - 1)

-- lines, after some lines, are answered by this text, a line for each, and some line is bad or none is
unfoldable pub AnswersLines : Answering → ℕ → List (List ℕ) → List ℕ → Bool → Type 0
AnswersLines answers before [] text bad = (text ≡ []) × (bad ≡ false)
AnswersLines answers before (line ∷ lines) text bad = (here : List ℕ) × (more : List ℕ) × (b : Bool) × (c : Bool)
    × (text ≡ here ++ (10 ∷ []) ++ more) × (bad ≡ (b || c))
    × answers (number_after before) line here b × AnswersLines answers (before + 1) lines more c
