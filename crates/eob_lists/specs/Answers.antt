-- What calls of the two ends of a list answer, and what they leave.
use Rattle.std.specs.Prelude.{◌≡◌, ℕ, ◌+◌, ◌-◌, ◌≤◌, min, nat_lt, if◌then◌else◌, List, [], ◌∷◌, ◌++◌, length, reverse, slice_get}
use Rattle.std.specs.Prelude.{Option, None}
use Rattle.std.specs.List.{cons_option}
use Rattle.eob_both.specs.Ends.{Ends, IsExactly, PlaceToCome}
use Rattle.eob_lists.specs.declared.drive.End.{End}
use Rattle.eob_lists.specs.declared.drive.End.TheVariants.{Front, Back}

-- P at the front, and Q at the back
abbrev pub MatchEnd : End → Type 0 → Type 0 → Type 0
MatchEnd Front P Q = P
MatchEnd Back P Q = Q

-- the answer of a call of an end of xs, after f calls of the front and b of the back: None where these were as many as the items or
-- more, and else the item of that end that is still to come
abbrev pub answer_at : {A : Type 0} → List A → ℕ → ℕ → End → Option A
answer_at xs f b Front = if nat_lt (f + b) (length xs) then slice_get xs f else None
answer_at xs f b Back = if nat_lt (f + b) (length xs) then slice_get xs (length xs - 1 - b) else None

-- the answers of such calls, one for each
abbrev pub answers_after : {A : Type 0} → List A → ℕ → ℕ → List End → List (Option A)
answers_after xs f b [] = []
answers_after xs f b (Front ∷ more) = answer_at xs f b Front ∷ answers_after xs (f + 1) b more
answers_after xs f b (Back ∷ more) = answer_at xs f b Back ∷ answers_after xs f (b + 1) more

-- the answers of calls of the ends of xs
abbrev pub answers : {A : Type 0} → List A → List End → List (Option A)
answers xs ends = answers_after xs 0 0 ends

-- how many items are left after them
abbrev pub left_over : {A : Type 0} → List A → List End → ℕ
left_over xs ends = length xs - min (length xs) (length ends)

-- the items that the calls of the front gave
abbrev pub from_front : {A : Type 0} → List End → List (Option A) → List A
from_front [] given = []
from_front (e ∷ ends) [] = []
from_front (Front ∷ ends) (r ∷ given) = cons_option r (from_front ends given)
from_front (Back ∷ ends) (r ∷ given) = from_front ends given

-- the items that the calls of the back gave
abbrev pub from_back : {A : Type 0} → List End → List (Option A) → List A
from_back [] given = []
from_back (e ∷ ends) [] = []
from_back (Front ∷ ends) (r ∷ given) = from_back ends given
from_back (Back ∷ ends) (r ∷ given) = cons_option r (from_back ends given)

-- as many calls as items or more take the whole list: what came from the front, and then what came from the back in reverse order
abbrev pub WholeWalkLaw : Type 0 → Type 0
WholeWalkLaw A = (xs : List A) (ends : List End) → length xs ≤ length ends
    → from_front ends (answers xs ends) ++ reverse (from_back ends (answers xs ends)) ≡ xs

-- a list, and how items are read as its elements
pub record Listed (A : Type 0) : Type 0 where
  pub view : A → A
  pub items : List A

-- what the value at a place becomes has the list still to come, and counts it; where there is no value, the list is empty
abbrev pub PlaceCounts : {X S A : Type 0} → (X → S → Type 0) → Ends S A → Listed A → Option X → Type 0
PlaceCounts gives it list o = PlaceToCome gives IsExactly it list.view list.items o
