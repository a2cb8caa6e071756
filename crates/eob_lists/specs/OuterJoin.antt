-- The sides, the steps and the runs of `OuterJoin`.
use Rattle.std.specs.Prelude.{◌≡◌, ◌↔◌, ℕ, ◌<◌, ◌≤◌, ◌+◌, ◌^◌, true, List, ◌++◌, length, map, Option, Some, None, IfSome, SomeIff}
use Rattle.std.specs.Prelude.{option_map}
use Rattle.std.specs.Borrow.{Bor}
use Rattle.std.specs.Slice.Iter.{iter_rest}
use Rattle.std.specs.Iterator.{Count, IsFinite, at_most, count_add, count_map}
use Rattle.std.specs.Iterator.Runs.{Run, SomeRun, EachRunFrom, AllItems}
use Rattle.std.specs.Map.Iter.{deref_pair}
use Rattle.std.specs.Ordering.{MatchOrdering}
use Rattle.std.specs.declared.cmp.Ordering.{Ordering}
use Rattle.eob_both.specs.declared.either_or_both.EitherOrBoth.{EitherOrBoth}
use Rattle.eob_both.specs.declared.either_or_both.EitherOrBoth.TheVariants.{Left, Both, Right}
use Rattle.eob_lists.specs.declared.join.walk.JoinedPairs.{JoinedPairs}
use Rattle.eob_lists.specs.declared.join.refs.PairRefs.{PairRefs}
use Rattle.eob_both.specs.Places.{left_place, right_place}
use Rattle.eob_lists.specs.Join.{Rising, IsJoin, value_under}
use Rattle.eob_lists.specs.JoinLaws.{HasJoinCounts, deref_joined, shared_keys}

-- how many items a side has left at most: the one that is held, and those of its iterator; a side that holds none has ended
abbrev pub held_remaining : {X : Type 0} → Option X → Count → Count
held_remaining None c = at_most 0
held_remaining (Some x) c = count_map (λ n. n + 1) c

module _ {I J K A B : Type 0} where
  -- a side that holds an item may be asked for the next one
  abbrev pub join_can : (I → Type 0) → (J → Type 0) → JoinedPairs I J (K × A) (K × B) → Type 0
  join_can first second s = IfSome s.left (λ _. first s.lefts) × IfSome s.right (λ _. second s.rights)

  -- the items of both sides
  abbrev pub join_remaining : (I → Count) → (J → Count) → JoinedPairs I J (K × A) (K × B) → Count
  join_remaining first second s = count_add (held_remaining s.left (first s.lefts))
      (held_remaining s.right (second s.rights))

  module _ (cmp : K → K → Ordering) (firsts : I → Option (K × A) → I → Type 0)
      (seconds : J → Option (K × B) → J → Type 0) where
    -- a side takes the next item of its iterator
    abbrev pub TakesLeft : JoinedPairs I J (K × A) (K × B) → JoinedPairs I J (K × A) (K × B) → Type 0
    TakesLeft s t = firsts s.lefts t.left t.lefts

    abbrev pub TakesRight : JoinedPairs I J (K × A) (K × B) → JoinedPairs I J (K × A) (K × B) → Type 0
    TakesRight s t = seconds s.rights t.right t.rights

    -- a side stays as it is
    abbrev pub KeepsLeft : JoinedPairs I J (K × A) (K × B) → JoinedPairs I J (K × A) (K × B) → Type 0
    KeepsLeft s t = (t.left ≡ s.left) × (t.lefts ≡ s.lefts)

    abbrev pub KeepsRight : JoinedPairs I J (K × A) (K × B) → JoinedPairs I J (K × A) (K × B) → Type 0
    KeepsRight s t = (t.right ≡ s.right) × (t.rights ≡ s.rights)

    -- what a call gives and leaves, by the items that the two sides hold
    abbrev pub StepsFrom : Option (K × A) → Option (K × B) → JoinedPairs I J (K × A) (K × B)
        → Option (K × EitherOrBoth A B) → JoinedPairs I J (K × A) (K × B) → Type 0
    StepsFrom None None s r t = (r ≡ None) × KeepsLeft s t × KeepsRight s t
    StepsFrom (Some x) None s r t = (r ≡ Some (x.0, Left x.1)) × TakesLeft s t × KeepsRight s t
    StepsFrom None (Some y) s r t = (r ≡ Some (y.0, Right y.1)) × KeepsLeft s t × TakesRight s t
    StepsFrom (Some x) (Some y) s r t =
        MatchOrdering (cmp x.0 y.0)
        ((r ≡ Some (x.0, Left x.1)) × TakesLeft s t × KeepsRight s t)
        ((r ≡ Some (x.0, Both x.1 y.1)) × TakesLeft s t × TakesRight s t)
        ((r ≡ Some (y.0, Right y.1)) × KeepsLeft s t × TakesRight s t)

    -- a call of `next`
    abbrev pub join_steps : JoinedPairs I J (K × A) (K × B) → Option (K × EitherOrBoth A B)
        → JoinedPairs I J (K × A) (K × B) → Type 0
    join_steps s r t = StepsFrom s.left s.right s r t

-- p gave the items of a and of b: their join, where the keys of both strictly increase; and where it ended both had ended
abbrev pub IsJoinRun : {W S T K A B : Type 0} {steps : W → Option (K × EitherOrBoth A B) → W → Type 0}
    {firsts : S → Option (K × A) → S → Type 0} {seconds : T → Option (K × B) → T → Type 0}
    → (K → K → Ordering) → Run steps → Run firsts → Run seconds → Type 0
IsJoinRun cmp p a b = (a.len ≤ p.len) × (b.len ≤ p.len) × (p.len ≤ a.len + b.len)
    × (p.whole ≡ true → (a.whole ≡ true) × (b.whole ≡ true))
    × (Rising cmp a.items → Rising cmp b.items → IsJoin cmp a.items b.items p.items)

-- z holds the first item of s and that of t, and what is left of each
abbrev pub HoldsFirsts : {S T K A B : Type 0} → (S → Option (K × A) → S → Type 0)
    → (T → Option (K × B) → T → Type 0) → S → T
    → JoinedPairs S T (K × A) (K × B) → Type 0
HoldsFirsts firsts seconds s t z = firsts s z.left z.lefts × seconds t z.right z.rights

-- z holds the first items of two iterators of which `left` and `right` hold, and behind each run of it stand runs of those
abbrev pub JoinsRuns : {S T K A B : Type 0} → (K → K → Ordering) → (S → Type 0) → (T → Type 0)
    → (S → Option (K × A) → S → Type 0) → (T → Option (K × B) → T → Type 0)
    → JoinedPairs S T (K × A) (K × B) → Type 0
JoinsRuns {S} {T} cmp left right firsts seconds z = (s : S) × (t : T) × left s × right t
    × HoldsFirsts firsts seconds s t z
    × EachRunFrom (join_steps cmp firsts seconds) z
    (λ p. SomeRun firsts s (λ a. SomeRun seconds t (λ b. IsJoinRun cmp p a b)))

-- z ends where two iterators do of which `left` and `right` hold
abbrev pub JoinEnds : {S T K A B : Type 0} → (S → Type 0) → (T → Type 0) → (S → Count) → (T → Count)
    → JoinedPairs S T (K × A) (K × B) → Type 0
JoinEnds {S} {T} left right first second z = (s : S) × (t : T) × left s × right t
    × (IsFinite (first s) → IsFinite (second t) → IsFinite (join_remaining first second z))

module _ {W S T K A B : Type 0} {steps : W → Option (Bor K × EitherOrBoth (Bor A) (Bor B)) → W → Type 0}
    {firsts : S → Option (Bor K × Bor A) → S → Type 0}
    {seconds : T → Option (Bor K × Bor B) → T → Type 0} where
  -- the same as `IsJoinRun` for references: the join is of what they show
  abbrev pub IsShownJoinRun : (K → K → Ordering) → Run steps → Run firsts → Run seconds → Type 0
  IsShownJoinRun cmp p a b = (a.len ≤ p.len) × (b.len ≤ p.len) × (p.len ≤ a.len + b.len)
      × (p.whole ≡ true → (a.whole ≡ true) × (b.whole ≡ true))
      × (Rising cmp (map deref_pair a.items) → Rising cmp (map deref_pair b.items)
      → IsJoin cmp (map deref_pair a.items) (map deref_pair b.items) (map deref_joined p.items))

-- the same as `JoinsRuns` for references
abbrev pub JoinsShownRuns : {S T K A B : Type 0} → (K → K → Ordering) → (S → Type 0) → (T → Type 0)
    → (S → Option (Bor K × Bor A) → S → Type 0) → (T → Option (Bor K × Bor B) → T → Type 0)
    → JoinedPairs S T (Bor K × Bor A) (Bor K × Bor B) → Type 0
JoinsShownRuns {S} {T} cmp left right firsts seconds z = (s : S) × (t : T) × left s × right t
    × HoldsFirsts firsts seconds s t z
    × EachRunFrom (join_steps (λ j k. cmp j.now k.now) firsts seconds) z
    (λ p. SomeRun firsts s (λ a. SomeRun seconds t (λ b. IsShownJoinRun cmp p a b)))

-- the sum of two upper bounds, where both are there and it fits
abbrev pub IsBoundSum : Option ℕ → Option ℕ → Option ℕ → Type 0
IsBoundSum None n r = r ≡ None
IsBoundSum (Some m) None r = r ≡ None
IsBoundSum (Some m) (Some n) r = SomeIff r (m + n < 2 ^ 64) (m + n)

-- the pairs that references are still to come to
abbrev pub pairs_left : {K V : Type 0} → PairRefs K V → List (K × V)
pairs_left s = iter_rest s.rest

-- the values of a row of references are what the two lists have under its key
abbrev pub ShowsPlaces : {K A B : Type 0} → (K → K → Ordering) → List (K × A) → List (K × B)
    → Bor K × EitherOrBoth (Bor A) (Bor B) → Type 0
ShowsPlaces cmp xs ys z = (option_map (λ a. a.now) (left_place z.1) ≡ value_under cmp xs z.0.now)
    × (option_map (λ b. b.now) (right_place z.1) ≡ value_under cmp ys z.0.now)

-- the rows are a beginning of the join; `law_begins_join` opens it, since left open it led the search astray behind `take`
unfoldable pub BeginsJoin : {K A B : Type 0} → (K → K → Ordering) → List (K × A) → List (K × B)
    → List (K × EitherOrBoth A B) → Type 0
BeginsJoin {K} {A} {B} cmp xs ys zs = (rest : List (K × EitherOrBoth A B)) × IsJoin cmp xs ys (zs ++ rest)

-- rows are a beginning of the join exactly where some rows after them make it whole
abbrev pub BeginsJoinLaw : {K : Type 0} → (K → K → Ordering) → (A B : Type 0) → Type 0
BeginsJoinLaw {K} cmp A B = (xs : List (K × A)) (ys : List (K × B)) (zs : List (K × EitherOrBoth A B))
    → BeginsJoin cmp xs ys zs ↔ ((rest : List (K × EitherOrBoth A B)) × IsJoin cmp xs ys (zs ++ rest))

-- what a run p of a walk over references gave of the join of xs and ys: no more rows than both lists have; each shows what the two
-- lists have under its key; their keys strictly increase, and they are a beginning of the join; where p ended they are all of it, a row
-- for each key of either list
pub record ShowsJoin {W K A B : Type 0} {steps : W → Option (Bor K × EitherOrBoth (Bor A) (Bor B)) → W → Type 0}
    (cmp : K → K → Ordering) (xs : List (K × A)) (ys : List (K × B)) (p : Run steps) : Type 0 where
  pub bound : p.len ≤ length xs + length ys
  pub join : p.whole ≡ true → IsJoin cmp xs ys (map deref_joined p.items)
  pub places : AllItems p (ShowsPlaces cmp xs ys)
  pub rises : Rising cmp (map deref_joined p.items)
  pub begins : BeginsJoin cmp xs ys (map deref_joined p.items)
  pub whole_len : p.whole ≡ true → p.len + shared_keys cmp xs ys ≡ length xs + length ys
  pub counts : p.whole ≡ true → HasJoinCounts cmp xs ys p.items
