-- A merge of three versions of a table in which a rule may settle a row that is in conflict.
use Rattle.std.specs.Prelude.{◌≡◌, ◌<◌, ◌&&◌, Bool, true, false, not, List, [], ◌∷◌, length, Option, Some, None, Result, Ok, Err, MatchOption, if◌then◌else◌}
use Rattle.std.specs.declared.cmp.Ordering.{Ordering}
use Rattle.eob_both.specs.declared.either_or_both.EitherOrBoth.{EitherOrBoth}
use Rattle.eob_both.specs.Places.{from_places, left_place, right_place, item_left, item_right}
use Rattle.eob_lists.specs.Join.{Rising, value_under}
use Rattle.eob_joins.specs.declared.versions.Merged.{Merged}
use Rattle.eob_joins.specs.declared.versions.Merged.TheVariants.{Whole, Conflicts}
use Rattle.eob_joins.specs.Tables.{Tabulates}
use Rattle.eob_joins.specs.Versions.{is_conflict, merged_place, verdict}

-- a test of three places, and a relation of three places and a value, at the places of a row
abbrev pub test_of : {V : Type 0} → (Option V → Option V → Option V → Bool) → EitherOrBoth V (EitherOrBoth V V) → Bool
test_of can v = can (left_place v) (item_left (right_place v)) (item_right (right_place v))

abbrev pub ValueOf : {V : Type 0} → (Option V → Option V → Option V → V → Type 0)
    → EitherOrBoth V (EitherOrBoth V V) → V → Type 0
ValueOf gives v w = gives (left_place v) (item_left (right_place v)) (item_right (right_place v)) w

-- a rule settles a row exactly where it can, with a value that it gives, and else hands the row back
abbrev pub Settles : {V : Type 0} → (Option V → Option V → Option V → Bool)
    → (Option V → Option V → Option V → V → Type 0)
    → EitherOrBoth V (EitherOrBoth V V) → Result V (EitherOrBoth V (EitherOrBoth V V)) → Type 0
Settles can gives v (Ok w) = (test_of can v ≡ true) × ValueOf gives v w
Settles can gives v (Err same) = (test_of can v ≡ false) × (same ≡ v)

-- whether a row is in conflict and not settled
abbrev pub is_unresolved : {V : Type 0} → (V → V → Bool) → (Option V → Option V → Option V → Bool)
    → Option V → Option V → Option V → Bool
is_unresolved eq can base ours theirs = is_conflict (verdict eq base ours theirs) && not (can base ours theirs)

-- the three values of such a row
abbrev pub unresolved_place : {V : Type 0} → (V → V → Bool) → (Option V → Option V → Option V → Bool)
    → Option V → Option V → Option V → Option (EitherOrBoth V (EitherOrBoth V V))
unresolved_place eq can base ours theirs = if is_unresolved eq can base ours theirs then from_places base
    (from_places ours theirs) else None

-- by whether a row is in conflict: a value that the rule gives, or what is merged
abbrev pub BecameBy : {V : Type 0} → Bool → (V → Type 0) → Option V → Option V → Type 0
BecameBy true P merged m = MatchOption m ⊥ P
BecameBy false P merged m = m ≡ merged

-- what became of three places that are not unresolved
abbrev pub Became : {V : Type 0} → (V → V → Bool) → (Option V → Option V → Option V → V → Type 0)
    → Option V → Option V → Option V → Option V → Type 0
Became eq gives base ours theirs m = BecameBy (is_conflict (verdict eq base ours theirs))
    (gives base ours theirs) (merged_place eq base ours theirs) m

-- the same of a row
abbrev pub unresolved_row : {V : Type 0} → (V → V → Bool) → (Option V → Option V → Option V → Bool)
    → EitherOrBoth V (EitherOrBoth V V) → Bool
unresolved_row eq can v = is_unresolved eq can (left_place v) (item_left (right_place v)) (item_right (right_place v))

abbrev pub unresolved : {V : Type 0} → (V → V → Bool) → (Option V → Option V → Option V → Bool)
    → EitherOrBoth V (EitherOrBoth V V) → Option (EitherOrBoth V (EitherOrBoth V V))
unresolved eq can v = if unresolved_row eq can v then Some v else None

abbrev pub BecameOf : {V : Type 0} → (V → V → Bool) → (Option V → Option V → Option V → V → Type 0)
    → EitherOrBoth V (EitherOrBoth V V) → Option V → Type 0
BecameOf eq gives v m = Became eq gives (left_place v) (item_left (right_place v)) (item_right (right_place v)) m

-- the same where the row is not unresolved
abbrev pub BecameUnless : {V : Type 0} → (V → V → Bool) → (Option V → Option V → Option V → Bool)
    → (Option V → Option V → Option V → V → Type 0) → EitherOrBoth V (EitherOrBoth V V) → Option V → Type 0
BecameUnless eq can gives v m = unresolved_row eq can v ≡ false → BecameOf eq gives v m

-- a row before others, where there is a value
abbrev pub with_row : {K W : Type 0} → K → Option W → List (K × W) → List (K × W)
with_row k None rs = rs
with_row k (Some w) rs = (k, w) ∷ rs

-- each row of zs, in order, became an optional value by R, and rs has those that are there
abbrev pub KeptAs : {K V W : Type 0} → (V → Option W → Type 0) → List (K × V) → List (K × W) → Type 0
KeptAs R [] rs = rs ≡ []
KeptAs {K} {V} {W} R (z ∷ zs) rs = (m : Option W) × R z.1 m × ((ts : List (K × W)) × KeptAs R zs ts
    × (rs ≡ with_row z.0 m ts))

module _ {K : Type 0} (cmp : K → K → Ordering) where
  -- the merged table, in which each key has what became of its three values, none of which is unresolved; or the rows that are unresolved,
  -- of which there is one at least
  abbrev pub IsMergeWith : {V M : Type 0} → (V → V → Bool) → (Option V → Option V → Option V → Bool)
      → (Option V → Option V → Option V → V → Type 0) → List (K × V) → List (K × V) → List (K × V)
      → Merged K V M → Type 0
  IsMergeWith eq can gives b p q (Whole rs) = Rising cmp rs.items
      × ((k : K) → Became eq gives (value_under cmp b k) (value_under cmp p k) (value_under cmp q k)
      (value_under cmp rs.items k))
      × ((k : K) → is_unresolved eq can (value_under cmp b k) (value_under cmp p k) (value_under cmp q k) ≡ false)
  IsMergeWith eq can gives b p q (Conflicts cs) = Tabulates cmp cs.items (λ k. unresolved_place eq can
      (value_under cmp b k) (value_under cmp p k) (value_under cmp q k))
      × (0 < length cs.items)
