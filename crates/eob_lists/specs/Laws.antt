-- The laws of the aligned list and of the normal form, for all lists.
use Rattle.std.specs.Prelude.{◌≡◌, ℕ, ◌↔◌, max, List, length}
use Rattle.std.specs.List.{slice_get}
use Rattle.eob_both.specs.declared.either_or_both.EitherOrBoth.{EitherOrBoth}
use Rattle.eob_both.specs.Places.{from_places}
use Rattle.eob_both.specs.Sides.{collected, lefts, rights}
use Rattle.eob_both.specs.Aligned.{aligned}
use Rattle.eob_lists.specs.Normal.{IsNormal, regrouped}

-- two lists that were aligned come back as the two sides; the aligned list is as long as the longer one, and has at each index what
-- the two lists have there
pub record AlignedLaw (L R : Type 0) : Type 0 where
  pub left : (p : List L) (q : List R) → lefts (aligned p q) ≡ p
  pub right : (p : List L) (q : List R) → rights (aligned p q) ≡ q
  pub longer : (p : List L) (q : List R) → length (aligned p q) ≡ max (length p) (length q)
  pub places : (p : List L) (q : List R) (i : ℕ)
      → slice_get (aligned p q) i ≡ from_places (slice_get p i) (slice_get q i)

-- two lists are collected into equal pairs, and regrouped into equal lists, exactly where their two sides agree
pub record EqualPairsLaw (L R : Type 0) : Type 0 where
  pub collected : (xs ys : List (EitherOrBoth L R))
      → (collected xs ≡ collected ys) ↔ ((lefts xs ≡ lefts ys) × (rights xs ≡ rights ys))
  pub regrouped : (xs ys : List (EitherOrBoth L R))
      → (regrouped xs ≡ regrouped ys) ↔ ((lefts xs ≡ lefts ys) × (rights xs ≡ rights ys))

-- regrouping leaves exactly the normal lists as they are
abbrev pub UnchangedLaw : Type 0 → Type 0 → Type 0
UnchangedLaw L R = (xs : List (EitherOrBoth L R)) → (regrouped xs ≡ xs) ↔ IsNormal xs

-- regrouping twice gives what regrouping once gives
abbrev pub TwiceLaw : Type 0 → Type 0 → Type 0
TwiceLaw L R = (xs : List (EitherOrBoth L R)) → regrouped (regrouped xs) ≡ regrouped xs
