-- The held side and the steps of `SwapIterEither`.
use Rattle.std.specs.Prelude.{◌≡◌, ℕ, length, map, List, [], ◌∷◌, Option, None, MatchOption}
use Rattle.std.specs.Iterator.{Count, AlwaysYields, size}
use Rattle.eob_both.specs.Ends.{Ends, both_ends, LastTaken, HasBound, IsExactly, ToCome, StillToCome, CountedToCome}
use Rattle.either_or_both.specs.declared.either.Either.{Either}
use Rattle.either_or_both.specs.declared.either.Either.TheVariants.{Left, Right}
use Rattle.either_or_both.specs.declared.iter_either.swap.SwapIterEither.{SwapIterEither}
use Rattle.either_or_both.specs.Either.{item_left, item_right, map_places, MatchPlaces}

module _ {S T : Type 0} where
  -- the iterator that the walk holds, in its variant
  abbrev pub swap_side : SwapIterEither S T → Either S T
  swap_side s = s.side

  -- an end may be called where it may be called at the held side
  abbrev pub held_swap_can : (S → Type 0) → (T → Type 0) → SwapIterEither S T → Type 0
  held_swap_can first second s = MatchPlaces (swap_side s) first second

  -- as many items are left as at the held side
  abbrev pub count_of : (S → Count) → (T → Count) → Either S T → Count
  count_of first second (Left a) = first a
  count_of first second (Right b) = second b

  abbrev pub held_swap_remaining : (S → Count) → (T → Count) → SwapIterEither S T → Count
  held_swap_remaining first second s = count_of first second (swap_side s)

  -- a call takes a step of the held side, and gives its item in the held variant
  abbrev pub held_swap_steps : {A B : Type 0} → (S → Option A → S → Type 0) → (T → Option B → T → Type 0)
      → SwapIterEither S T → Option (Either A B) → SwapIterEither S T → Type 0
  held_swap_steps firsts seconds s r t = MatchPlaces (swap_side s)
      (λ a. (b : S) × (swap_side t ≡ Left b) × firsts a (item_left r) b × (item_right r ≡ None))
      (λ a. (b : T) × (swap_side t ≡ Right b) × seconds a (item_right r) b × (item_left r ≡ None))

  -- the words of the walk, from those of its sides
  abbrev pub held_swap_ends : {A B : Type 0} → Ends S A → Ends T B → Ends (SwapIterEither S T) (Either A B)
  held_swap_ends it jt = both_ends
      (held_swap_can it.can_next jt.can_next)
      (held_swap_can it.can_next_back jt.can_next_back)
      (held_swap_steps it.next_gives jt.next_gives)
      (held_swap_steps it.next_back_gives jt.next_back_gives)
      (held_swap_remaining it.remaining jt.remaining)

  -- zs is what the held side gives forward, in the held variant
  abbrev pub HeldSwapYields : {A B C D : Type 0} → (S → Option A → S → Type 0) → (T → Option B → T → Type 0)
      → (A → C) → (B → D) → List (Either C D) → SwapIterEither S T → Type 0
  HeldSwapYields {C = C} {D = D} firsts seconds v w zs s = MatchPlaces (swap_side s)
      (λ a. (xs : List C) × AlwaysYields firsts v a xs × (zs ≡ map (λ x. Left x) xs))
      (λ b. (ys : List D) × AlwaysYields seconds w b ys × (zs ≡ map (λ y. Right y) ys))

  -- zs is what the held side has still to come, in the held variant
  abbrev pub HeldSwapToCome : {A B C D : Type 0} → (Count → ℕ → Type 0) → Ends S A → Ends T B → (A → C)
      → (B → D) → List (Either C D) → SwapIterEither S T → Type 0
  HeldSwapToCome {C = C} {D = D} c it jt v w zs s = MatchPlaces (swap_side s)
      (λ a. (xs : List C) × ToCome c it v xs a × (zs ≡ map (λ x. Left x) xs))
      (λ b. (ys : List D) × ToCome c jt w ys b × (zs ≡ map (λ y. Right y) ys))

  -- every call of `next` takes the first item of what the held side gives forward, in the held variant, or finds it empty
  abbrev pub HeldSwapNextTakesFirst : {A B : Type 0} → (S → Option A → S → Type 0)
      → (T → Option B → T → Type 0) → Type 0
  HeldSwapNextTakesFirst {A} {B} firsts seconds = (s : SwapIterEither S T) (r : Option (Either A B))
      (t : SwapIterEither S T) → held_swap_steps firsts seconds s r t
      → (v : A → A) (w : B → B) (zs : List (Either A B)) → HeldSwapYields firsts seconds v w zs s
      → MatchOption r (zs ≡ []) (λ x. (ys : List (Either A B)) × (zs ≡ map_places v w x ∷ ys)
      × HeldSwapYields firsts seconds v w ys t)

  -- every call of `next_back` takes the last item of what the held side has still to come, or finds it empty, as it stays
  abbrev pub HeldSwapBackTakesLast : {A B : Type 0} → Ends S A → Ends T B → Type 0
  HeldSwapBackTakesLast {A} {B} it jt = (s : SwapIterEither S T) (r : Option (Either A B))
      (t : SwapIterEither S T) → (held_swap_ends it jt).next_back_gives s r t
      → (v : A → A) (w : B → B) (zs : List (Either A B)) → HeldSwapToCome HasBound it jt v w zs s
      → LastTaken (map_places v w) (HeldSwapToCome HasBound it jt v w) zs r t

  -- the walk has that list still to come, however its ends are called
  abbrev pub SwapHasHeld : {A B : Type 0} → Ends S A → Ends T B → Type 0
  SwapHasHeld {A} {B} it jt = (v : A → A) (w : B → B) (zs : List (Either A B)) (s : SwapIterEither S T)
      → HeldSwapToCome HasBound it jt v w zs s → StillToCome (held_swap_ends it jt) (map_places v w) zs s

  -- and where the held side counts it, so does the walk
  abbrev pub SwapCountsHeld : {A B : Type 0} → Ends S A → Ends T B → Type 0
  SwapCountsHeld {A} {B} it jt = (v : A → A) (w : B → B) (zs : List (Either A B)) (s : SwapIterEither S T)
      → HeldSwapToCome IsExactly it jt v w zs s
      → CountedToCome (held_swap_ends it jt) (map_places v w) zs s
      × (size ((held_swap_ends it jt).remaining s) ≡ length zs)
