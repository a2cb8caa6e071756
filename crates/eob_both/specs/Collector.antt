-- What a pair of containers holds, once a list of values was collected into it.
use Rattle.std.specs.Prelude.{◌≡◌, List, [], Option, Some, None, is_some}
use Rattle.eob_both.specs.declared.either_or_both.EitherOrBoth.{EitherOrBoth}
use Rattle.eob_both.specs.Places.{left_place, right_place}
use Rattle.eob_both.specs.Sides.{pair_of}

-- what the container of a place holds, and nothing where there is none
abbrev pub contents_at : {A C : Type 0} → (C → List A) → Option C → List A
contents_at c None = []
contents_at c (Some x) = c x

-- v is the pair of containers into which ps and qs were collected: a side stands in v exactly where it stands in the pair of the two
-- lists, and its contents are what P or Q say of
-- its list, where c and d read a container's contents; those of a side that does not stand are empty
pub record Collects {A B C D : Type 0} (c : C → List A) (d : D → List B) (P : List A → List A → Type 0)
    (Q : List B → List B → Type 0) (ps : List A) (qs : List B) (v : EitherOrBoth C D) : Type 0 where
  pub left : P ps (contents_at c (left_place v))
  pub right : Q qs (contents_at d (right_place v))
  pub has_left : is_some (left_place v) ≡ is_some (left_place (pair_of ps qs))
  pub has_right : is_some (right_place v) ≡ is_some (right_place (pair_of ps qs))
