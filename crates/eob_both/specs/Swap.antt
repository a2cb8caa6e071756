-- The sides and the steps of `SwapIterEitherOrBoth`.
use Rattle.std.specs.Prelude.{◌≡◌, ℕ, ◌<◌, ◌≤◌, Option, None, IfSome, List}
use Rattle.std.specs.Iterator.{Count}
use Rattle.eob_both.specs.declared.either_or_both.EitherOrBoth.{EitherOrBoth}
use Rattle.eob_both.specs.declared.iter.swap.SwapIterEitherOrBoth.{SwapIterEitherOrBoth}
use Rattle.eob_both.specs.Places.{item_left, item_right, map_places}
use Rattle.eob_both.specs.Side.{side_steps, side_len, side_remaining, count_max}
use Rattle.eob_both.specs.Ends.{Ends, both_ends, FirstTaken, LastTaken, IsExactly, CountedToCome, SideToCome, SideYields}
use Rattle.eob_both.specs.Aligned.{aligned}

-- a side with n items left beside one with m: it takes the step, or stays as it is where the other is longer
pub record StepsUnlessShorter {S A : Type 0} (steps : S → Option A → S → Type 0) (n m : ℕ) (s : Option S)
    (r : Option A) (t : Option S) : Type 0 where
  pub goes : m ≤ n → side_steps steps s r t
  pub waits : n < m → (r ≡ None) × (t ≡ s)

module _ {S T : Type 0} where
  -- the sides that the walk still asks
  abbrev pub swap_left : SwapIterEitherOrBoth S T → Option S
  swap_left s = s.left

  abbrev pub swap_right : SwapIterEitherOrBoth S T → Option T
  swap_right s = s.right

  -- an end may be called where it may be called at each side
  abbrev pub swap_can : (S → Type 0) → (T → Type 0) → SwapIterEitherOrBoth S T → Type 0
  swap_can first second s = IfSome (swap_left s) first × IfSome (swap_right s) second

  -- the walk has as many items left as the longer side
  abbrev pub swap_remaining : (S → Count) → (T → Count) → SwapIterEitherOrBoth S T → Count
  swap_remaining first second s = count_max (side_remaining first (swap_left s))
      (side_remaining second (swap_right s))

  -- a call of `next`: each side takes a step, which gives its place of the item
  abbrev pub swap_steps : {A B : Type 0} → (S → Option A → S → Type 0) → (T → Option B → T → Type 0)
      → SwapIterEitherOrBoth S T → Option (EitherOrBoth A B) → SwapIterEitherOrBoth S T → Type 0
  swap_steps firsts seconds s r t = side_steps firsts (swap_left s) (item_left r) (swap_left t)
      × side_steps seconds (swap_right s) (item_right r) (swap_right t)

  -- a call of `next_back`: each side takes a step, unless the other is longer
  abbrev pub swap_steps_back : {A B : Type 0} → (S → Option A → S → Type 0) → (T → Option B → T → Type 0)
      → (S → Count) → (T → Count) → SwapIterEitherOrBoth S T → Option (EitherOrBoth A B)
      → SwapIterEitherOrBoth S T → Type 0
  swap_steps_back firsts seconds first_count second_count s r t =
      StepsUnlessShorter firsts (side_len first_count (swap_left s)) (side_len second_count (swap_right s))
      (swap_left s) (item_left r) (swap_left t)
      × StepsUnlessShorter seconds (side_len second_count (swap_right s)) (side_len first_count (swap_left s))
      (swap_right s) (item_right r) (swap_right t)

  -- the words of the walk, from those of its sides
  abbrev pub swap_ends : {A B : Type 0} → Ends S A → Ends T B
      → Ends (SwapIterEitherOrBoth S T) (EitherOrBoth A B)
  swap_ends it jt = both_ends
      (swap_can it.can_next jt.can_next)
      (swap_can it.can_next_back jt.can_next_back)
      (swap_steps it.next_gives jt.next_gives)
      (swap_steps_back it.next_back_gives jt.next_back_gives it.remaining jt.remaining)
      (swap_remaining it.remaining jt.remaining)

  -- zs is the aligned list of what the sides have still to come
  abbrev pub SwapToCome : {A B C D : Type 0} → Ends S A → Ends T B → (A → C) → (B → D)
      → List (EitherOrBoth C D) → SwapIterEitherOrBoth S T → Type 0
  SwapToCome {C = C} {D = D} it jt v w zs s = (p : List C) × (q : List D)
      × SideToCome IsExactly it v p (swap_left s) × SideToCome IsExactly jt w q (swap_right s)
      × (zs ≡ aligned p q)

  -- the same of the lists that come forward
  abbrev pub SwapYields : {A B C D : Type 0} → (S → Option A → S → Type 0) → (T → Option B → T → Type 0)
      → (A → C) → (B → D) → List (EitherOrBoth C D) → SwapIterEitherOrBoth S T → Type 0
  SwapYields {C = C} {D = D} firsts seconds v w zs s = (p : List C) × (q : List D)
      × SideYields firsts v p (swap_left s) × SideYields seconds w q (swap_right s) × (zs ≡ aligned p q)

  -- every call of `next` takes the first item of the aligned list, or finds it empty, as it stays
  abbrev pub SwapNextTakesFirst : {A B : Type 0} → (S → Option A → S → Type 0) → (T → Option B → T → Type 0)
      → Type 0
  SwapNextTakesFirst {A} {B} firsts seconds = (s : SwapIterEitherOrBoth S T) (r : Option (EitherOrBoth A B))
      (t : SwapIterEitherOrBoth S T) → swap_steps firsts seconds s r t
      → (v : A → A) (w : B → B) (zs : List (EitherOrBoth A B)) → SwapYields firsts seconds v w zs s
      → FirstTaken (map_places v w) (SwapYields firsts seconds v w) zs r t

  -- every call of `next_back` takes its last
  abbrev pub SwapBackTakesLast : {A B : Type 0} → Ends S A → Ends T B → Type 0
  SwapBackTakesLast {A} {B} it jt = (s : SwapIterEitherOrBoth S T) (r : Option (EitherOrBoth A B))
      (t : SwapIterEitherOrBoth S T) → (swap_ends it jt).next_back_gives s r t
      → (v : A → A) (w : B → B) (zs : List (EitherOrBoth A B)) → SwapToCome it jt v w zs s
      → LastTaken (map_places v w) (SwapToCome it jt v w) zs r t

  -- where the sides have p and q still to come, the walk has the two aligned, however its ends are called
  abbrev pub SwapHasAligned : {A B : Type 0} → Ends S A → Ends T B → Type 0
  SwapHasAligned {A} {B} it jt = (v : A → A) (w : B → B) (p : List A) (q : List B)
      (s : SwapIterEitherOrBoth S T) → SideToCome IsExactly it v p (swap_left s)
      → SideToCome IsExactly jt w q (swap_right s)
      → CountedToCome (swap_ends it jt) (map_places v w) (aligned p q) s
