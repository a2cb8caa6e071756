-- The list that an iterator has still to come, taken from either end.
use Rattle.std.specs.Prelude.{◌≡◌, ℕ, zero, suc, ◌-◌, List, [], ◌∷◌, ◌++◌, map, reverse, length, Option, Some, None, MatchOption, ⊤}
use Rattle.std.specs.Borrow.{Bor}
use Rattle.std.specs.Iterator.{Count, IsFinite, at_most, AlwaysYields}
use Rattle.std.specs.List.{range_with_len}
use Rattle.std.specs.declared.ops.Range.{Range}

-- the words of an iterator with both ends, as a bound `I: DoubleEndedIterator` gives them by `I.DoubleEndedIterator`
abbrev pub Ends : Type 0 → Type 0 → Type 1
Ends S A = record {
  can_next : S → Type 0;
  next_gives : S → Option A → S → Type 0;
  remaining : S → Count;
  can_next_back : S → Type 0;
  next_back_gives : S → Option A → S → Type 0;
}

abbrev pub both_ends : {S A : Type 0} → (S → Type 0) → (S → Type 0) → (S → Option A → S → Type 0)
    → (S → Option A → S → Type 0) → (S → Count) → Ends S A
both_ends can back gives gives_back left = record {
  can_next = can;
  next_gives = gives;
  remaining = left;
  can_next_back = back;
  next_back_gives = gives_back;
}

-- the same iterator, seen from its other end
abbrev pub turned : {S A : Type 0} → Ends S A → Ends S A
turned it = record {
  can_next = it.can_next_back;
  next_gives = it.next_back_gives;
  remaining = it.remaining;
  can_next_back = it.can_next;
  next_back_gives = it.next_gives;
}

-- what the count of an iterator with n items still to come is to be: some bound, or n
abbrev pub HasBound : Count → ℕ → Type 0
HasBound c n = IsFinite c

abbrev pub IsExactly : Count → ℕ → Type 0
IsExactly c n = c ≡ at_most n

-- what a call that answered r took from the list xs, where `view` reads an item as an element: its first, or None where it was empty,
-- as it stays. P holds of what is left.
abbrev pub FirstTaken : {S A B : Type 0} → (A → B) → (List B → S → Type 0) → List B → Option A → S → Type 0
FirstTaken {B = B} view P xs r t = MatchOption r ((xs ≡ []) × P [] t)
    (λ x. (ys : List B) × (xs ≡ view x ∷ ys) × P ys t)

-- its last
abbrev pub LastTaken : {S A B : Type 0} → (A → B) → (List B → S → Type 0) → List B → Option A → S → Type 0
LastTaken {B = B} view P xs r t = MatchOption r ((xs ≡ []) × P [] t)
    (λ x. (ys : List B) × (xs ≡ ys ++ view x ∷ []) × P ys t)

-- One call of either end, where `view` reads the items as the list xs: both ends may be called, the count is as C says for the length
-- of xs, and a call takes the item of its end, or none where xs is empty.
-- P holds of the list and the state that a call leaves.
pub record TakesFromEnds {S A B : Type 0} (C : Count → ℕ → Type 0) (it : Ends S A) (view : A → B)
    (P : List B → S → Type 0) (xs : List B) (s : S) : Type 0 where
  pub callable : it.can_next s
  pub callable_back : it.can_next_back s
  pub counted : C (it.remaining s) (length xs)
  pub front : (r : Option A) (t : S) → it.next_gives s r t → FirstTaken view P xs r t
  pub back : (r : Option A) (t : S) → it.next_back_gives s r t → LastTaken view P xs r t

-- the same of any n calls
abbrev pub HoldsFor : {S A B : Type 0} → (Count → ℕ → Type 0) → Ends S A → (A → B) → ℕ → List B → S → Type 0
HoldsFor C it view zero xs s = ⊤
HoldsFor C it view (suc n) xs s = TakesFromEnds C it view (HoldsFor C it view n) xs s

-- `view` reads the items that are still to come as the list xs, however the two ends are called
pub record ToCome {S A B : Type 0} (C : Count → ℕ → Type 0) (it : Ends S A) (view : A → B) (xs : List B)
    (s : S) : Type 0 where
  pub after : (n : ℕ) → HoldsFor C it view n xs s

abbrev pub StillToCome : {S A B : Type 0} → Ends S A → (A → B) → List B → S → Type 0
StillToCome it view xs s = ToCome HasBound it view xs s

-- the same, and the count is always the exact number
abbrev pub CountedToCome : {S A B : Type 0} → Ends S A → (A → B) → List B → S → Type 0
CountedToCome it view xs s = ToCome IsExactly it view xs s

-- the same of a side of a walk: nothing is to come from one that is absent
abbrev pub SideToCome : {S A B : Type 0} → (Count → ℕ → Type 0) → Ends S A → (A → B) → List B → Option S
    → Type 0
SideToCome C it view xs None = xs ≡ []
SideToCome C it view xs (Some s) = ToCome C it view xs s

-- the same of a place whose value, if there is one, is to be made an iterator
abbrev pub PlaceToCome : {X S A B : Type 0} → (X → S → Type 0) → (Count → ℕ → Type 0) → Ends S A → (A → B)
    → List B → Option X → Type 0
PlaceToCome gives C it view xs None = xs ≡ []
PlaceToCome {S = S} gives C it view xs (Some x) = (s : S) → gives x s → ToCome C it view xs s

-- calls of both ends took apart the list xs: the items from the front, what is still to come, and the items from the back, last first
pub record TakenApart {S A B : Type 0} (C : Count → ℕ → Type 0) (it : Ends S A) (view : A → B) (xs : List B)
    (fronts backs : List A) (s : S) : Type 0 where
  pub left : List B
  pub to_come : ToCome C it view left s
  pub same : map view fronts ++ (left ++ reverse (map view backs)) ≡ xs

-- every run of `next` from a side gives items that `view` reads as xs: nothing comes from one that is absent
abbrev pub SideYields : {S A B : Type 0} → (S → Option A → S → Type 0) → (A → B) → List B → Option S → Type 0
SideYields steps view xs None = xs ≡ []
SideYields steps view xs (Some s) = AlwaysYields steps view s xs

-- a range of unsigned numbers has those from its start up to its end
abbrev pub range_rest : Range ℕ → List ℕ
range_rest s = range_with_len s.start (s.end - s.start)

-- a reference to a value, as a view of references takes each to
abbrev pub ref_to : {X : Type 0} → X → Bor X
ref_to x = record { ref_ptr = (0, 0); now = x }
