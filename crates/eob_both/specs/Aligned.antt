-- Two lists side by side.
use Rattle.std.specs.Prelude.{◌≡◌, ℕ, max, List, [], ◌∷◌, map, length}
use Rattle.std.specs.List.{slice_get}
use Rattle.eob_both.specs.declared.either_or_both.EitherOrBoth.{EitherOrBoth}
use Rattle.eob_both.specs.declared.either_or_both.EitherOrBoth.TheVariants.{Left, Both, Right}
use Rattle.eob_both.specs.Places.{from_places}

-- the items of two lists side by side, first with first, as far as the longer list goes
abbrev pub aligned : {A B : Type 0} → List A → List B → List (EitherOrBoth A B)
aligned [] ys = map (λ y. Right y) ys
aligned (x ∷ xs) [] = Left x ∷ map (λ a. Left a) xs
aligned (x ∷ xs) (y ∷ ys) = Both x y ∷ aligned xs ys

-- zs is this list by index: each of its places has the item of xs and the item of ys there, and it is as long as the longer of the two
abbrev pub AlignedByIndex : {A B : Type 0} → List A → List B → List (EitherOrBoth A B) → Type 0
AlignedByIndex xs ys zs = ((i : ℕ) → slice_get zs i ≡ from_places (slice_get xs i) (slice_get ys i))
    × (length zs ≡ max (length xs) (length ys))
