-- What a merge makes of each key of three versions of a table, with the rows in conflict in their places.
use Rattle.std.proofs.Common.{◌≡◌, ◌∙◌, Bool, false, List, [], ◌∷◌, Option, None, Some, ap, refl, subst, sym}
use Rattle.std.specs.Prelude.{if◌then◌else◌, option_map}
use Rattle.std.specs.Cmp.{IsTotalOrder}
use Rattle.std.specs.List.{AllByRecursion}
use Rattle.std.specs.declared.cmp.Ordering.{Ordering}
use Rattle.std.specs.declared.cmp.Ordering.TheVariants.{Equal}
use Rattle.eob_both.specs.declared.either_or_both.EitherOrBoth.{EitherOrBoth}
use Rattle.eob_both.specs.Places.{from_places, item_left, item_right, left_place, right_place}
use Rattle.eob_lists.specs.Join.{Rising, value_under}
use Rattle.eob_joins.specs.Marked.{IsMarkedMerge, MarkedAs}
use Rattle.eob_joins.specs.Settled.{BecameOf, KeptAs, unresolved_row, with_row}
use Rattle.eob_joins.specs.Tables.{kept}
use Rattle.eob_joins.specs.declared.marked.Marked.{Marked}
use Rattle.eob_joins.specs.declared.marked.Marked.TheVariants.{Settled, Unresolved}
use Rattle.eob_joins.proofs.TableLemmas.{same_table}
use Rattle.eob_joins.proofs.VersionLemmas.{versions_law}
use Rattle.command_callers.proofs.KnownCells.{became_once}
use Rattle.command_callers.proofs.KnownJoins.{three, three_tabulated}

-- what stands of a row of three versions: the row itself where no rule settles it, and else its value by a function, if it has one
abbrev pub marked_of : {V : Type 0} → (V → V → Bool) → (Option V → Option V → Option V → Bool) → (EitherOrBoth V (EitherOrBoth V V) → Option V)
    → EitherOrBoth V (EitherOrBoth V V) → Option (Marked V)
marked_of eq can f v = if unresolved_row eq can v then Some (Unresolved v) else option_map Settled (f v)

-- a rule that gives one value at most, and a function that gives the value of each row that is settled
module _ {V : Type 0} (eq : V → V → Bool) (can : Option V → Option V → Option V → Bool) (gives : Option V → Option V → Option V → V → Type 0)
    (once : (b p q : Option V) (v w : V) → gives b p q v → gives b p q w → v ≡ w) (f : EitherOrBoth V (EitherOrBoth V V) → Option V) where
  abbrev pub IsValue : EitherOrBoth V (EitherOrBoth V V) → Type 0
  IsValue v = unresolved_row eq can v ≡ false → BecameOf eq gives v (f v)

  value_is : (v : EitherOrBoth V (EitherOrBoth V V)) (m : Option V) → IsValue v → unresolved_row eq can v ≡ false → BecameOf eq gives v m → m ≡ f v
  value_is v m s settled h = became_once eq gives once (left_place v) (item_left (right_place v)) (item_right (right_place v)) m (f v) h (s settled)

  marked_is : (v : EitherOrBoth V (EitherOrBoth V V)) (m : Option (Marked V)) → IsValue v → MarkedAs eq can gives v m → m ≡ marked_of eq can f v
  marked_is v None s h = rw h.0 (ap (option_map Settled) (value_is v None s h.0 h.1))
  marked_is v (Some (Settled w)) s h = rw h.0 (ap (option_map Settled) (value_is v (Some w) s h.0 h.1))
  marked_is v (Some (Unresolved same)) s h = rw h.0 (ap (λ x. Some (Unresolved x)) h.1)

  module _ {K : Type 0} where
    with_marked : (z : K × EitherOrBoth V (EitherOrBoth V V)) (zs : List (K × EitherOrBoth V (EitherOrBoth V V))) (m : Option (Marked V))
        → m ≡ marked_of eq can f z.1 → with_row z.0 m (kept (marked_of eq can f) zs) ≡ kept (marked_of eq can f) (z ∷ zs)
    with_marked z zs None e = rw (sym e) refl
    with_marked z zs (Some w) e = rw (sym e) refl

    marked_all : (zs : List (K × EitherOrBoth V (EitherOrBoth V V))) (rows : List (K × Marked V)) → AllByRecursion (λ z. IsValue z.1) zs
        → KeptAs (MarkedAs eq can gives) zs rows → rows ≡ kept (marked_of eq can f) zs
    marked_all [] rows s h = h
    marked_all (z ∷ zs) rows s h = h.2.2 ∙ ap (with_row z.0 h.0) (marked_all zs h.2.0 s.1 h.2.1) ∙ with_marked z zs h.0 (marked_is z.1 h.0 s.0 h.1)

    module _ (cmp : K → K → Ordering) (o : IsTotalOrder cmp) (exact : (j k : K) → cmp j k ≡ Equal → j ≡ k)
        (b p q : List (K × V)) (first : Rising cmp b) (second : Rising cmp p) (third : Rising cmp q) where
      -- the rows of a merge with marks are these
      pub marked_rows : AllByRecursion (λ z. IsValue z.1) (three cmp b p q) → (rows : List (K × Marked V)) → IsMarkedMerge cmp eq can gives b p q rows
          → rows ≡ kept (marked_of eq can f) (three cmp b p q)
      marked_rows s rows h =
          let are : h.0 ≡ three cmp b p q =
          same_table cmp o (EitherOrBoth V (EitherOrBoth V V)) exact (λ k. from_places (value_under cmp b k) (from_places (value_under cmp p k) (value_under cmp q k))) h.0 (three cmp b p q)
          (versions_law cmp V b p q h.0 h.1) (three_tabulated cmp o exact eq b p q first second third) in
          marked_all (three cmp b p q) rows s (subst (λ zs. KeptAs (MarkedAs eq can gives) zs rows) are h.2)
