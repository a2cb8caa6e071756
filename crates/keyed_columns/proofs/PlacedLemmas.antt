-- Cells that are passed on the way to a place, and the cells of columns in their order.
use Rattle.std.proofs.Common.{◌≡◌, ◌∙◌, ◌+◌, ◌-◌, ◌^◌, ◌<◌, ◌≤◌, ℕ, zero, suc, List, [], ◌∷◌, Bor, Option, Some, None, arith, drop, length, min, refl, sym, ap}
use Rattle.std.specs.Prelude.{MatchOption, slice_get}
use Rattle.std.specs.Iterator.{Yields, YieldsFirstRef}
use Rattle.std.proofs.lemmas.List.{drop-drop, drop_min}
use Rattle.keyed_columns.specs.Placed.{cell_placed, placed, rest_behind}
use Rattle.keyed_columns.specs.declared.columns.Place.{Place}

-- what is left after the n-th of the items that come
pub nth-left : {A : Type 0} (xs : List (Bor A)) (s t u : List A) (r : Option (Bor A)) (n : ℕ) → Yields (YieldsFirstRef (λ left. left)) s xs t
    → YieldsFirstRef (λ left. left) t r u → MatchOption r (length xs ≤ n) (λ _. length xs ≡ n) → u ≡ drop (suc n) s
nth-left [] s t u None n y p h = p.1 ∙ sym (ap (drop (suc n)) (y ∙ p.0))
nth-left [] s t u (Some v) n y p h = sym (ap (λ k. drop (suc k) s) (sym h) ∙ ap (drop (suc zero)) (y ∙ p))
nth-left (x ∷ xs) s t u None zero y p h = absurd (omega arith)
nth-left (x ∷ xs) s t u (Some v) zero y p h = absurd (omega arith)
nth-left (x ∷ xs) s t u None (suc n) y p h = let h' : length xs ≤ n = omega arith in nth-left xs y.0 t u None n y.2 p h' ∙ sym (ap (drop (suc (suc n))) y.1)
nth-left (x ∷ xs) s t u (Some v) (suc n) y p h = let h' : length xs ≡ n = omega arith in nth-left xs y.0 t u (Some v) n y.2 p h' ∙ sym (ap (drop (suc (suc n))) y.1)

-- a place of what is left
pub slice_get-drop : {A : Type 0} (p k n : ℕ) (xs : List A) → n ≡ p + k → slice_get (drop p xs) k ≡ slice_get xs n
slice_get-drop zero k n xs e = let s : k ≡ n = omega arith in ap (slice_get xs) s
slice_get-drop (suc p) k n [] e = refl
slice_get-drop (suc p) k zero (x ∷ xs) e = absurd (omega arith)
slice_get-drop (suc p) k (suc n) (x ∷ xs) e = let s : n ≡ p + k = omega arith in slice_get-drop p k n xs s

-- what is left after a place, also after one that no list has
pub left-behind : {A : Type 0} (cells next new : List A) (p k n : ℕ) → next ≡ drop p cells → new ≡ drop (suc k) next → n ≡ p + k → length cells < 2 ^ 64
    → new ≡ drop (min (n + 1) (2 ^ 64 - 1)) cells
left-behind cells next new p k n at is e bound =
    let same : min (p + suc k) (length cells) ≡ min (min (n + 1) (2 ^ 64 - 1)) (length cells) = omega arith in
    is ∙ ap (drop (suc k)) at ∙ drop-drop (suc k) p cells ∙ sym (drop_min (p + suc k) cells) ∙ ap (λ i. drop i cells) same ∙ drop_min (min (n + 1) (2 ^ 64 - 1)) cells

-- the cell of the next column
pub placed-next : (place : Place) (order : List Place) (key rest : List (List ℕ)) → placed (place ∷ order) key rest ≡ cell_placed place key rest ∷ placed order key (rest_behind place rest)
unfolding placed
placed-next place order key rest = refl

pub placed-none : (key rest : List (List ℕ)) → placed [] key rest ≡ []
unfolding placed
placed-none key rest = refl
