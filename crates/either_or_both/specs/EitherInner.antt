-- The held side and the steps of `InnerIterEither`.
use Rattle.std.specs.Prelude.{◌≡◌, length, List, [], ◌∷◌, Option, MatchOption}
use Rattle.std.specs.Iterator.{AlwaysYields, size}
use Rattle.eob_both.specs.Ends.{Ends, both_ends, LastTaken, StillToCome, CountedToCome}
use Rattle.either_or_both.specs.declared.either.Either.{Either}
use Rattle.either_or_both.specs.declared.iter_either.inner.InnerIterEither.{InnerIterEither}
use Rattle.either_or_both.specs.Either.{held}

module _ {S : Type 0} where
  -- the iterator that the walk holds, in the variant of the value that it was made of
  abbrev pub inner_side : InnerIterEither S → Either S S
  inner_side s = s.side

  -- the iterator itself
  abbrev pub inner_held : InnerIterEither S → S
  inner_held s = held s.side

  -- a call takes a step of it
  abbrev pub inner_steps : {A : Type 0} → (S → Option A → S → Type 0) → InnerIterEither S → Option A
      → InnerIterEither S → Type 0
  inner_steps steps s r t = steps (inner_held s) r (inner_held t)

  -- the words of the walk, from those of the iterator
  abbrev pub inner_ends : {A : Type 0} → Ends S A → Ends (InnerIterEither S) A
  inner_ends it = both_ends (λ s. it.can_next (inner_held s)) (λ s. it.can_next_back (inner_held s))
      (inner_steps it.next_gives) (inner_steps it.next_back_gives) (λ s. it.remaining (inner_held s))

  -- every call of `next` takes the first item of the list that the held side gives forward, or finds it empty
  abbrev pub InnerNextTakesFirst : {A : Type 0} → (S → Option A → S → Type 0) → Type 0
  InnerNextTakesFirst {A} steps = (s : InnerIterEither S) (r : Option A) (t : InnerIterEither S)
      → inner_steps steps s r t → (v : A → A) (xs : List A) → AlwaysYields steps v (inner_held s) xs
      → MatchOption r (xs ≡ []) (λ x. (ys : List A) × (xs ≡ v x ∷ ys)
      × AlwaysYields steps v (inner_held t) ys)

  -- every call of `next_back` takes the last item of the list that the held side has still to come, or finds it empty, as it stays
  abbrev pub InnerBackTakesLast : {A : Type 0} → Ends S A → Type 0
  InnerBackTakesLast {A} it = (s : InnerIterEither S) (r : Option A) (t : InnerIterEither S)
      → (inner_ends it).next_back_gives s r t → (v : A → A) (xs : List A) → StillToCome it v xs (inner_held s)
      → LastTaken v (λ ys u. StillToCome it v ys (inner_held u)) xs r t

  -- the walk has the list of the held side still to come, however its ends are called
  abbrev pub InnerHasHeld : {A : Type 0} → Ends S A → Type 0
  InnerHasHeld {A} it = (v : A → A) (xs : List A) (s : InnerIterEither S) → StillToCome it v xs (inner_held s)
      → StillToCome (inner_ends it) v xs s

  -- and where the held side counts it, so does the walk
  abbrev pub InnerCountsHeld : {A : Type 0} → Ends S A → Type 0
  InnerCountsHeld {A} it = (v : A → A) (xs : List A) (s : InnerIterEither S)
      → CountedToCome it v xs (inner_held s)
      → CountedToCome (inner_ends it) v xs s × (size ((inner_ends it).remaining s) ≡ length xs)
