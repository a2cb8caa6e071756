-- A merge of three versions of a table that keeps the rows in conflict in their places, and the merged rows and those in conflict apart.
use Rattle.std.specs.Prelude.{◌≡◌, ◌==◌, ◌<◌, Bool, true, false, List, [], length, Option, Some, None, if◌then◌else◌}
use Rattle.std.specs.declared.cmp.Ordering.{Ordering}
use Rattle.eob_both.specs.declared.either_or_both.EitherOrBoth.{EitherOrBoth}
use Rattle.eob_joins.specs.Settled.{BecameOf, BecameUnless, KeptAs, unresolved, unresolved_row}
use Rattle.eob_joins.specs.Tables.{kept}
use Rattle.eob_joins.specs.Versions.{IsVersionJoin}
use Rattle.eob_joins.specs.declared.marked.Marked.{Marked}
use Rattle.eob_joins.specs.declared.marked.Marked.TheVariants.{Settled, Unresolved}
use Rattle.eob_joins.specs.declared.marked.Parted.{Parted}
use Rattle.eob_joins.specs.declared.versions.Merged.{Merged}
use Rattle.eob_joins.specs.declared.versions.Merged.TheVariants.{Whole, Conflicts}

-- what stands of a row: the row itself where it is unresolved, and else the value that it became, if it has one
abbrev pub MarkedAs : {V : Type 0} → (V → V → Bool) → (Option V → Option V → Option V → Bool)
    → (Option V → Option V → Option V → V → Type 0) → EitherOrBoth V (EitherOrBoth V V) → Option (Marked V) → Type 0
MarkedAs eq can gives v None = (unresolved_row eq can v ≡ false) × BecameOf eq gives v None
MarkedAs eq can gives v (Some (Settled w)) = (unresolved_row eq can v ≡ false) × BecameOf eq gives v (Some w)
MarkedAs eq can gives v (Some (Unresolved same)) = (unresolved_row eq can v ≡ true) × (same ≡ v)

-- the rows of the join of three versions, in order, each as what stands of it
abbrev pub IsMarkedMerge : {K V : Type 0} → (K → K → Ordering) → (V → V → Bool) → (Option V → Option V → Option V → Bool)
    → (Option V → Option V → Option V → V → Type 0) → List (K × V) → List (K × V) → List (K × V) → List (K × Marked V) → Type 0
IsMarkedMerge {K} {V} cmp eq can gives b p q rows = (zs : List (K × EitherOrBoth V (EitherOrBoth V V)))
    × IsVersionJoin cmp b p q zs × KeptAs (MarkedAs eq can gives) zs rows

-- the value of a merged row, and the three of one that is unresolved
abbrev pub settled_value : {V : Type 0} → Marked V → Option V
settled_value (Settled w) = Some w
settled_value (Unresolved versions) = None

abbrev pub unresolved_versions : {V : Type 0} → Marked V → Option (EitherOrBoth V (EitherOrBoth V V))
unresolved_versions (Settled w) = None
unresolved_versions (Unresolved versions) = Some versions

-- what a merge gives of both: the merged rows where none is unresolved, and else those that are
abbrev pub merged_of : {K V M : Type 0} → Parted K V M → Merged K V M
merged_of parted = if length parted.unresolved.items == 0 then Whole parted.settled else Conflicts parted.unresolved

-- the merged rows of the join of three versions where none is unresolved, and else those that are
abbrev pub PartedAs : {K V M : Type 0} → (V → V → Bool) → (Option V → Option V → Option V → Bool)
    → (Option V → Option V → Option V → V → Type 0) → List (K × EitherOrBoth V (EitherOrBoth V V)) → Merged K V M → Type 0
PartedAs eq can gives zs (Whole rs) = (kept (unresolved eq can) zs ≡ []) × KeptAs (BecameUnless eq can gives) zs rs.items
PartedAs eq can gives zs (Conflicts cs) = (cs.items ≡ kept (unresolved eq can) zs) × (0 < length cs.items)

abbrev pub IsPartedMerge : {K V M : Type 0} → (K → K → Ordering) → (V → V → Bool) → (Option V → Option V → Option V → Bool)
    → (Option V → Option V → Option V → V → Type 0) → List (K × V) → List (K × V) → List (K × V) → Merged K V M → Type 0
IsPartedMerge {K} {V} cmp eq can gives b p q m = (zs : List (K × EitherOrBoth V (EitherOrBoth V V)))
    × IsVersionJoin cmp b p q zs × PartedAs eq can gives zs m

-- a rule that settles nothing
abbrev pub can_nothing : {V : Type 0} → Option V → Option V → Option V → Bool
can_nothing base ours theirs = false

abbrev pub GivesNothing : {V : Type 0} → Option V → Option V → Option V → V → Type 0
GivesNothing base ours theirs w = ⊥
