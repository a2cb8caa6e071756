-- What a text is answered whose lines are known.
use Rattle.std.proofs.Common.{ℕ, ◌≡◌, ◌≤◌, ◌+◌, List, [], ◌∷◌, ◌++◌, inr, map, sym, ap, ap₂, ◌∙◌, append_assoc}
use Rattle.std.specs.Prelude.{Bool, false, ◌||◌, ⊤}
use Rattle.std.proofs.lemmas.List.Elements.{All-nil, All-cons}
use Rattle.line_words.specs.Names.{IsName, IsNameByte}
use Rattle.line_words.specs.Words.{words}
use Rattle.line_runs.specs.Texts.{AnswersLines, number_after}
use Rattle.walk_lines.specs.Commands.{Collect, Walk, Normal, Ends, Join, IsBad}
use Rattle.walk_lines.specs.Texts.{LineAnswer}

-- a line, its answer by its number, and whether it is bad
pub record Line : Type 0 where
  pub line : List ℕ
  pub answer : ℕ → List ℕ
  pub is_bad : Bool

-- these are what the line is answered
abbrev pub Knows : Line → Type 0
Knows known = (number : ℕ) (text : List ℕ) (bad : Bool) → LineAnswer number known.line text bad → (bad ≡ known.is_bad) × (text ≡ known.answer number)

abbrev pub KnowsAll : List Line → Type 0
KnowsAll [] = ⊤
KnowsAll (known ∷ more) = Knows known × KnowsAll more

-- the answers to lines, after some lines
abbrev pub texts : ℕ → List Line → List ℕ
texts before [] = []
texts before (known ∷ more) = known.answer (number_after before) ++ ((10 ∷ []) ++ texts (before + 1) more)

abbrev pub any_bad : List Line → Bool
any_bad [] = false
any_bad (known ∷ more) = known.is_bad || any_bad more

pub answered : (before : ℕ) (known : List Line) (output : List ℕ) (bad : Bool) → KnowsAll known → AnswersLines LineAnswer before (map (λ k. k.line) known) output bad
    → (output ≡ texts before known) × (bad ≡ any_bad known)
unfolding AnswersLines
answered before [] output bad h a = (a.0, a.1)
answered before (known ∷ more) output bad h a =
    let here = h.0 (number_after before) a.0 a.2 a.6 in
    let later = answered (before + 1) more a.1 a.3 h.1 a.7 in (
      a.4 ∙ ap (λ l. (l ++ 10 ∷ []) ++ a.1) here.1 ∙ append_assoc (known.answer (number_after before)) (10 ∷ []) a.1 ∙ ap (λ l. known.answer (number_after before) ++ ((10 ∷ []) ++ l)) later.0,
      a.5 ∙ ap₂ (λ x y. x || y) here.0 later.1,
    )

-- a name of one letter
pub letter : (b : ℕ) → 97 ≤ b → b ≤ 122 → IsName (b ∷ [])
letter b h g = ((λ e. absurd (cc)), All-cons IsNameByte b [] (inr (h, g)) (All-nil IsNameByte))

-- a line without a word is bad
pub wordless : (line : List ℕ) → words line ≡ [] → IsBad line
wordless line e (Collect items) s = let same = sym e ∙ s.words in absurd (cc (same))
wordless line e (Walk items) s = let same = sym e ∙ s.words in absurd (cc (same))
wordless line e (Normal items) s = let same = sym e ∙ s.words in absurd (cc (same))
wordless line e (Ends ends items) s = let same = sym e ∙ s.words in absurd (cc (same))
wordless line e (Join p q) s = let same = sym e ∙ s.words in absurd (cc (same))
