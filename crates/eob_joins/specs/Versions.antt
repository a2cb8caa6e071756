-- Three versions of a table joined by key, and what became of a row.
use Rattle.std.specs.Prelude.{◌≡◌, ◌<◌, Bool, true, false, List, length, Option, Some, None, if◌then◌else◌}
use Rattle.std.specs.List.{list_any}
use Rattle.std.specs.Option.{option_eq}
use Rattle.std.specs.declared.cmp.Ordering.{Ordering}
use Rattle.eob_both.specs.declared.either_or_both.EitherOrBoth.{EitherOrBoth}
use Rattle.eob_both.specs.Places.{from_places, left_place, right_place, item_left, item_right}
use Rattle.eob_lists.specs.Join.{IsJoin, value_under}
use Rattle.eob_joins.specs.declared.versions.Verdict.{Verdict}
use Rattle.eob_joins.specs.declared.versions.Verdict.TheVariants.{Unchanged, Ours, Theirs, Alike, Conflict}
use Rattle.eob_joins.specs.declared.versions.Merged.{Merged}
use Rattle.eob_joins.specs.declared.versions.Merged.TheVariants.{Whole, Conflicts}
use Rattle.eob_joins.specs.Tables.{Tabulates, kept}

-- by three answers: whether ours is the base, whether theirs is, and whether the two are the same
abbrev pub verdict_of : Bool → Bool → Bool → Verdict
verdict_of true true alike = Unchanged
verdict_of true false alike = Theirs
verdict_of false true alike = Ours
verdict_of false false true = Alike
verdict_of false false false = Conflict

-- what became of a row with these places
abbrev pub verdict : {V : Type 0} → (V → V → Bool) → Option V → Option V → Option V → Verdict
verdict eq base ours theirs = verdict_of (option_eq eq base ours) (option_eq eq base theirs)
    (option_eq eq ours theirs)

abbrev pub row_verdict : {V : Type 0} → (V → V → Bool) → EitherOrBoth V (EitherOrBoth V V) → Verdict
row_verdict eq v = verdict eq (left_place v) (item_left (right_place v)) (item_right (right_place v))

abbrev pub is_conflict : Verdict → Bool
is_conflict Unchanged = false
is_conflict Ours = false
is_conflict Theirs = false
is_conflict Alike = false
is_conflict Conflict = true

-- the merged value, where there is no conflict: theirs where ours is the base, and else ours
abbrev pub merged_place : {V : Type 0} → (V → V → Bool) → Option V → Option V → Option V → Option V
merged_place eq base ours theirs = if option_eq eq base ours then theirs else ours

-- the three values of a conflict
abbrev pub clash_place : {V : Type 0} → (V → V → Bool) → Option V → Option V → Option V
    → Option (EitherOrBoth V (EitherOrBoth V V))
clash_place eq base ours theirs = if is_conflict (verdict eq base ours theirs) then from_places base
    (from_places ours theirs) else None

-- the same of a row: whether it is in conflict, its three values if it is, and its merged value
abbrev pub clashes : {V : Type 0} → (V → V → Bool) → EitherOrBoth V (EitherOrBoth V V) → Bool
clashes eq v = is_conflict (row_verdict eq v)

abbrev pub clash : {V : Type 0} → (V → V → Bool) → EitherOrBoth V (EitherOrBoth V V)
    → Option (EitherOrBoth V (EitherOrBoth V V))
clash eq v = if clashes eq v then Some v else None

abbrev pub merged : {V : Type 0} → (V → V → Bool) → EitherOrBoth V (EitherOrBoth V V) → Option V
merged eq v = merged_place eq (left_place v) (item_left (right_place v)) (item_right (right_place v))

-- what either side alone changed is merged, and what both sides changed alike
pub record MergedPlaceLaw {V : Type 0} (eq : V → V → Bool) : Type 0 where
  pub unchanged : (b p q : Option V) → verdict eq b p q ≡ Unchanged
      → (merged_place eq b p q ≡ q) × (option_eq eq b q ≡ true)
  pub ours : (b p q : Option V) → verdict eq b p q ≡ Ours → merged_place eq b p q ≡ p
  pub theirs : (b p q : Option V) → verdict eq b p q ≡ Theirs → merged_place eq b p q ≡ q
  pub alike : (b p q : Option V) → verdict eq b p q ≡ Alike
      → (merged_place eq b p q ≡ p) × (option_eq eq p q ≡ true)

module _ {K : Type 0} (cmp : K → K → Ordering) where
  -- rs is the join of the base with the join of the two others
  abbrev pub IsVersionJoin : {V : Type 0} → List (K × V) → List (K × V) → List (K × V)
      → List (K × EitherOrBoth V (EitherOrBoth V V)) → Type 0
  IsVersionJoin {V} b p q rs = (zs : List (K × EitherOrBoth V V)) × IsJoin cmp p q zs × IsJoin cmp b zs rs

  -- the join of three versions by look-ups
  abbrev pub VersionsLaw : Type 0 → Type 0
  VersionsLaw V = (b p q : List (K × V)) (rs : List (K × EitherOrBoth V (EitherOrBoth V V)))
      → IsVersionJoin b p q rs
      → Tabulates cmp rs (λ k. from_places (value_under cmp b k)
      (from_places (value_under cmp p k) (value_under cmp q k)))

  -- no row of the join of the three is in conflict, and rs has each with its merged value
  abbrev pub IsMergedTable : {V : Type 0} → (V → V → Bool) → List (K × V) → List (K × V) → List (K × V)
      → List (K × V) → Type 0
  IsMergedTable {V} eq b p q rs = (zs : List (K × EitherOrBoth V (EitherOrBoth V V))) × IsVersionJoin b p q zs
      × (list_any (λ z. clashes eq z.1) zs ≡ false) × (rs ≡ kept (merged eq) zs)

  -- some rows of the join of the three are in conflict, and cs are these
  abbrev pub AreConflicts : {V : Type 0} → (V → V → Bool) → List (K × V) → List (K × V) → List (K × V)
      → List (K × EitherOrBoth V (EitherOrBoth V V)) → Type 0
  AreConflicts {V} eq b p q cs = (zs : List (K × EitherOrBoth V (EitherOrBoth V V))) × IsVersionJoin b p q zs
      × (list_any (λ z. clashes eq z.1) zs ≡ true) × (cs ≡ kept (clash eq) zs)

  -- the merged table, or the rows in conflict
  abbrev pub IsMerge : {V M : Type 0} → (V → V → Bool) → List (K × V) → List (K × V) → List (K × V)
      → Merged K V M → Type 0
  IsMerge eq b p q (Whole rs) = IsMergedTable eq b p q rs.items
  IsMerge eq b p q (Conflicts cs) = AreConflicts eq b p q cs.items

  -- the same by look-ups
  abbrev pub IsMergeByKey : {V M : Type 0} → (V → V → Bool) → List (K × V) → List (K × V) → List (K × V)
      → Merged K V M → Type 0
  IsMergeByKey eq b p q (Whole rs) = Tabulates cmp rs.items (λ k. merged_place eq (value_under cmp b k)
      (value_under cmp p k) (value_under cmp q k))
      × ((k : K) → is_conflict (verdict eq (value_under cmp b k) (value_under cmp p k) (value_under cmp q k))
      ≡ false)
  IsMergeByKey eq b p q (Conflicts cs) = Tabulates cmp cs.items (λ k. clash_place eq (value_under cmp b k)
      (value_under cmp p k) (value_under cmp q k))
      × (0 < length cs.items)

  abbrev pub MergeLaw : {V M : Type 0} → (V → V → Bool) → Merged K V M → Type 0
  MergeLaw {V} {M} eq m = (b p q : List (K × V)) → IsMerge eq b p q m → IsMergeByKey eq b p q m
