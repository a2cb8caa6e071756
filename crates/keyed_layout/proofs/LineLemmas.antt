-- Cells that are shown in a line, one after another.
use Rattle.std.proofs.Common.{◌≡◌, ◌∙◌, ◌++◌, ◌⊎◌, ℕ, Bool, true, List, [], ◌∷◌, None, Option, Some, ap, append-nil, append_assoc, arith, filter, inl, inr, length, map, refl, sym, zip, ⊎_elim}
use Rattle.std.specs.Borrow.{Bor}
use Rattle.std.specs.Iterator.{YieldsFirstRef}
use Rattle.std.specs.Iterator.Adapters.{zip_first, zip_second, zip_steps}
use Rattle.std.specs.List.{AllZip}
use Rattle.std.specs.Slice.Iter.{iter_rest, iter_steps}
use Rattle.std.specs.declared.iter.Zip.{Zip}
use Rattle.std.specs.declared.slice.Iter.{Iter}
use Rattle.keyed_faults.specs.ShownCells.{IsShownCell}
use Rattle.keyed_numbers.specs.declared.alike.Alike.{Alike}
use Rattle.keyed_layout.specs.Lines.{AppendsBoth, AppendsShown, AreBothShown, IsLineOf, texts_of}
use Rattle.keyed_layout.specs.declared.lined_up.Line.{Line}

both_shown : (xs ys texts others : List (List ℕ)) → AllZip IsShownCell xs texts → AllZip IsShownCell ys others → AllZip IsShownCell (xs ++ ys) (texts ++ others)
both_shown [] ys [] others h k = k
both_shown [] ys (t ∷ texts) others h k = absurd h
both_shown (x ∷ xs) ys [] others h k = absurd h
both_shown (x ∷ xs) ys (t ∷ texts) others h k = (h.0, both_shown xs ys texts others h.1 k)

-- cells are put after others
pub shown-then : (xs ys : List (List ℕ)) (a b c : Line) → AppendsShown xs a b → AppendsShown ys b c → AppendsShown (xs ++ ys) a c
shown-then xs ys a b c h k = (
  h.0 ++ k.0,
  both_shown xs ys h.0 k.0 h.1 k.1,
  (k.2.0 ∙ ap (λ l. l ++ k.0) h.2.0 ∙ append_assoc (texts_of a) h.0 k.0, k.2.1 ∙ h.2.1),
)

-- cells after those of a line of a word
pub line-then : (word : List ℕ) (xs ys : List (List ℕ)) (a b : Line) → IsLineOf word xs a → AppendsShown ys a b → IsLineOf word (xs ++ ys) b
line-then word xs ys a b h k = (
  h.0 ++ k.0,
  both_shown xs ys h.0 k.0 h.1 k.1,
  k.2.0 ∙ ap (λ l. l ++ k.0) h.2,
  k.2.1 ∙ h.3,
)

-- the cells that are left, each with its flag
abbrev Two : Type 0
Two = Zip (List (List ℕ)) (Iter Bool)

abbrev pub still : Two → List (List ℕ × Bool)
still s = zip (zip_first s) (iter_rest (zip_second s))

abbrev Steps : Two → Option (Bor (List ℕ) × Bor Bool) → Two → Type 0
Steps = zip_steps (YieldsFirstRef (λ cells. cells)) iter_steps

zip_none : {A B : Type 0} (a : List A) (b : List B) → (a ≡ []) ⊎ (b ≡ []) → zip a b ≡ []
zip_none [] b e = refl
zip_none (x ∷ xs) [] e = refl
zip_none (x ∷ xs) (y ∷ ys) e = ⊎_elim (λ g. absurd (cc)) (λ g. absurd (cc)) e

nil_of_len : {A : Type 0} (xs : List A) → length xs ≡ 0 → xs ≡ []
nil_of_len [] e = refl
nil_of_len (x ∷ xs) e = absurd (omega arith)

pub cell-then : (s t : Two) (p : Bor (List ℕ) × Bor Bool) → Steps s (Some p) t → still s ≡ (p.0.now, p.1.now) ∷ still t
cell-then s t p h = rw (h.0, h.1) refl

pub none-left : (s t : Two) (r : Option (Bor (List ℕ) × Bor Bool)) → r ≡ None → Steps s r t → still s ≡ []
none-left s t (Some p) e h = absurd (cc)
none-left s t None e h =
    ⊎_elim
    (λ g. zip_none (zip_first s) (iter_rest (zip_second s)) (inl g.1.0))
    (λ g. zip_none (zip_first s) (iter_rest (zip_second s)) (inr (nil_of_len _ g.1.0)))
    h

-- those of pairs whose flag is set
abbrev pub with_flag : List (List ℕ × Bool) → List (List ℕ)
with_flag pairs = map (λ z. z.0) (filter (λ z. z.1) pairs)

pub flag-set : (cell : List ℕ) (b : Bool) (pairs : List (List ℕ × Bool)) → b ≡ true → with_flag ((cell, b) ∷ pairs) ≡ cell ∷ with_flag pairs
flag-set cell b pairs e = rw e refl

-- two cells of a row as one, after others
both_named : (xs ys : List (Alike × (List ℕ × List ℕ))) (texts others : List (List ℕ)) → AllZip AreBothShown xs texts → AllZip AreBothShown ys others
    → AllZip AreBothShown (xs ++ ys) (texts ++ others)
both_named [] ys [] others h k = k
both_named [] ys (t ∷ texts) others h k = absurd h
both_named (x ∷ xs) ys [] others h k = absurd h
both_named (x ∷ xs) ys (t ∷ texts) others h k = (h.0, both_named xs ys texts others h.1 k)

pub both-then : (xs ys : List (Alike × (List ℕ × List ℕ))) (a b c : Line) → AppendsBoth xs a b → AppendsBoth ys b c → AppendsBoth (xs ++ ys) a c
both-then xs ys a b c h k = (
  h.0 ++ k.0,
  both_named xs ys h.0 k.0 h.1 k.1,
  (k.2.0 ∙ ap (λ l. l ++ k.0) h.2.0 ∙ append_assoc (texts_of a) h.0 k.0, k.2.1 ∙ h.2.1),
)

-- the pairs that are left, each with how they are compared and their flag
abbrev Pairs : Type 0
Pairs = Zip (List (List ℕ)) (List (List ℕ))

abbrev Flags : Type 0
Flags = Zip (Iter Alike) (Iter Bool)

abbrev pairs_left : Pairs → List (List ℕ × List ℕ)
pairs_left s = zip (zip_first s) (zip_second s)

abbrev flags_left : Flags → List (Alike × Bool)
flags_left s = zip (iter_rest (zip_first s)) (iter_rest (zip_second s))

abbrev pub still-both : Zip Pairs Flags → List ((List ℕ × List ℕ) × (Alike × Bool))
still-both s = zip (pairs_left (zip_first s)) (flags_left (zip_second s))

abbrev PairSteps : Pairs → Option (Bor (List ℕ) × Bor (List ℕ)) → Pairs → Type 0
PairSteps = zip_steps (YieldsFirstRef (λ cells. cells)) (YieldsFirstRef (λ cells. cells))

abbrev FlagSteps : Flags → Option (Bor Alike × Bor Bool) → Flags → Type 0
FlagSteps = zip_steps iter_steps iter_steps

abbrev BothSteps : Zip Pairs Flags → Option ((Bor (List ℕ) × Bor (List ℕ)) × (Bor Alike × Bor Bool)) → Zip Pairs Flags → Type 0
BothSteps = zip_steps PairSteps FlagSteps

pub pair-then : (s t : Zip Pairs Flags) (p : (Bor (List ℕ) × Bor (List ℕ)) × (Bor Alike × Bor Bool)) → BothSteps s (Some p) t
    → still-both s ≡ ((p.0.0.now, p.0.1.now), (p.1.0.now, p.1.1.now)) ∷ still-both t
pair-then s t p h = rw (h.0.0, h.0.1, h.1.0, h.1.1) refl

pairs_none : (s t : Pairs) → PairSteps s None t → pairs_left s ≡ []
pairs_none s t h = zip_none (zip_first s) (zip_second s) (⊎_elim (λ k. inl k.1.0) (λ k. inr k.1.0) h)

flags_none : (s t : Flags) → FlagSteps s None t → flags_left s ≡ []
flags_none s t h =
    zip_none (iter_rest (zip_first s)) (iter_rest (zip_second s)) (⊎_elim (λ k. inl (nil_of_len _ k.1.0)) (λ k. inr (nil_of_len _ k.1.0)) h)

pub none-both-left : (s t : Zip Pairs Flags) (r : Option ((Bor (List ℕ) × Bor (List ℕ)) × (Bor Alike × Bor Bool))) → r ≡ None → BothSteps s r t → still-both s ≡ []
none-both-left s t (Some p) e h = absurd (cc)
none-both-left s t None e h =
    ⊎_elim
    (λ g. zip_none (pairs_left (zip_first s)) (flags_left (zip_second s)) (inl (pairs_none (zip_first s) (zip_first t) g.1)))
    (λ g. zip_none (pairs_left (zip_first s)) (flags_left (zip_second s)) (inr (flags_none (zip_second s) g.0 g.1)))
    h

-- those of pairs whose flag is set
abbrev pub both_with_flag : List ((List ℕ × List ℕ) × (Alike × Bool)) → List (Alike × (List ℕ × List ℕ))
both_with_flag pairs = map (λ z. (z.1.0, z.0)) (filter (λ z. z.1.1) pairs)

pub both-flag-set : (cells : List ℕ × List ℕ) (alike : Alike) (b : Bool) (pairs : List ((List ℕ × List ℕ) × (Alike × Bool))) → b ≡ true
    → both_with_flag ((cells, (alike, b)) ∷ pairs) ≡ (alike, cells) ∷ both_with_flag pairs
both-flag-set cells alike b pairs e = rw e refl
