-- The sides and the steps of `ChainedIterEitherOrBoth`.
use Rattle.std.specs.Prelude.{◌≡◌, Option, Some, None, IfSome, MatchOption, List, ◌++◌}
use Rattle.std.specs.Iterator.{Count, count_add}
use Rattle.eob_both.specs.declared.iter.chain.ChainedIterEitherOrBoth.{ChainedIterEitherOrBoth}
use Rattle.eob_both.specs.Side.{side_steps, side_remaining}
use Rattle.eob_both.specs.Ends.{Ends, both_ends, FirstTaken, LastTaken, HasBound, StillToCome, SideToCome, SideYields}

module _ {S : Type 0} where
  -- a call of two sides in turn: the near side answers, and where it has ended the far one takes its place and does
  abbrev pub InTurn : {A : Type 0} → (S → Option A → S → Type 0) → Option S → Option S → Option A → Option S
      → Option S → Type 0
  InTurn {A} steps near far r near' far' = (o : Option A) × (kept : Option S) × side_steps steps near o kept
      × MatchOption o (side_steps steps far r near' × (far' ≡ None))
      (λ x. (r ≡ Some x) × (near' ≡ kept) × (far' ≡ far))

  -- the sides that the walk still asks
  abbrev pub chain_left : ChainedIterEitherOrBoth S → Option S
  chain_left s = s.left

  abbrev pub chain_right : ChainedIterEitherOrBoth S → Option S
  chain_right s = s.right

  -- an end may be called where it may be called at each side
  abbrev pub chain_can : (S → Type 0) → ChainedIterEitherOrBoth S → Type 0
  chain_can can s = IfSome (chain_left s) can × IfSome (chain_right s) can

  -- the walk has the items of both sides left
  abbrev pub chain_remaining : (S → Count) → ChainedIterEitherOrBoth S → Count
  chain_remaining left s = count_add (side_remaining left (chain_left s))
      (side_remaining left (chain_right s))

  -- a call of `next` asks the left side first
  abbrev pub chain_steps : {A : Type 0} → (S → Option A → S → Type 0) → ChainedIterEitherOrBoth S → Option A
      → ChainedIterEitherOrBoth S → Type 0
  chain_steps steps s r t = InTurn steps (chain_left s) (chain_right s) r (chain_left t) (chain_right t)

  -- a call of `next_back` asks the right side first
  abbrev pub chain_steps_back : {A : Type 0} → (S → Option A → S → Type 0) → ChainedIterEitherOrBoth S
      → Option A → ChainedIterEitherOrBoth S → Type 0
  chain_steps_back steps s r t = InTurn steps (chain_right s) (chain_left s) r (chain_right t) (chain_left t)

  -- the words of the walk, from those of its sides
  abbrev pub chain_ends : {A : Type 0} → Ends S A → Ends (ChainedIterEitherOrBoth S) A
  chain_ends it = both_ends (chain_can it.can_next) (chain_can it.can_next_back) (chain_steps it.next_gives)
      (chain_steps_back it.next_back_gives) (chain_remaining it.remaining)

  -- zs is the list that the left side has still to come, followed by that of the right
  abbrev pub ChainToCome : {A B : Type 0} → Ends S A → (A → B) → List B → ChainedIterEitherOrBoth S → Type 0
  ChainToCome {B = B} it view zs s = (p : List B) × (q : List B)
      × SideToCome HasBound it view p (chain_left s) × SideToCome HasBound it view q (chain_right s)
      × (zs ≡ p ++ q)

  -- the same of the lists that come forward
  abbrev pub ChainYields : {A B : Type 0} → (S → Option A → S → Type 0) → (A → B) → List B
      → ChainedIterEitherOrBoth S → Type 0
  ChainYields {B = B} steps view zs s = (p : List B) × (q : List B) × SideYields steps view p (chain_left s)
      × SideYields steps view q (chain_right s) × (zs ≡ p ++ q)

  -- every call of `next` takes the first item of the left list followed by the right one, or finds it empty, as it stays
  abbrev pub ChainNextTakesFirst : {A : Type 0} → (S → Option A → S → Type 0) → Type 0
  ChainNextTakesFirst {A} steps = (s : ChainedIterEitherOrBoth S) (r : Option A)
      (t : ChainedIterEitherOrBoth S) → chain_steps steps s r t
      → (view : A → A) (zs : List A) → ChainYields steps view zs s
      → FirstTaken view (ChainYields steps view) zs r t

  -- every call of `next_back` takes its last
  abbrev pub ChainBackTakesLast : {A : Type 0} → Ends S A → Type 0
  ChainBackTakesLast {A} it = (s : ChainedIterEitherOrBoth S) (r : Option A) (t : ChainedIterEitherOrBoth S)
      → (chain_ends it).next_back_gives s r t
      → (view : A → A) (zs : List A) → ChainToCome it view zs s → LastTaken view (ChainToCome it view) zs r t

  -- where the sides have p and q still to come, the chain has p and then q, however its ends are called
  abbrev pub ChainHasBoth : {A : Type 0} → Ends S A → Type 0
  ChainHasBoth {A} it = (view : A → A) (p q : List A) (s : ChainedIterEitherOrBoth S)
      → SideToCome HasBound it view p (chain_left s) → SideToCome HasBound it view q (chain_right s)
      → StillToCome (chain_ends it) view (p ++ q) s
