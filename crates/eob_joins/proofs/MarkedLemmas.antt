-- A merge with each row in conflict in its place: the merged rows and those in conflict, and where no rule settles them the merge by row.
use Rattle.std.proofs.Common.{◌≡◌, ◌∙◌, ◌&&◌, ◌==◌, ◌<◌, Bool, true, false, List, [], ◌∷◌, ◌++◌, length, Option, Some, None, arith, refl, sym, ap, subst, true≢false, inl, inr, option_map}
use Rattle.std.specs.Prelude.{if◌then◌else◌}
use Rattle.std.proofs.lemmas.Bool.{cases_Bool}
use Rattle.std.specs.Cmp.{IsTotalOrder}
use Rattle.std.specs.List.{list_any}
use Rattle.std.specs.declared.cmp.Ordering.{Ordering}
use Rattle.eob_both.specs.declared.either_or_both.EitherOrBoth.{EitherOrBoth}
use Rattle.eob_joins.specs.Marked.{GivesNothing, IsMarkedMerge, IsPartedMerge, MarkedAs, PartedAs, can_nothing, merged_of, settled_value, unresolved_versions}
use Rattle.eob_joins.specs.Settled.{BecameBy, BecameUnless, IsMergeWith, KeptAs, unresolved, unresolved_row, with_row}
use Rattle.eob_joins.specs.Tables.{kept}
use Rattle.eob_joins.specs.Versions.{IsMerge, clash, clashes, merged}
use Rattle.eob_joins.specs.declared.marked.Marked.{Marked}
use Rattle.eob_joins.specs.declared.marked.Marked.TheVariants.{Settled, Unresolved}
use Rattle.eob_joins.specs.declared.marked.Parted.{Parted}
use Rattle.eob_joins.specs.declared.versions.Merged.{Merged}
use Rattle.eob_joins.specs.declared.versions.Merged.TheVariants.{Whole, Conflicts}
use Rattle.eob_joins.proofs.SettledLemmas.{no_items, some_items, unresolved_law, whole_law}
use Rattle.eob_joins.proofs.TableLemmas.{by_test}

module _ {K V : Type 0} (eq : V → V → Bool) (can : Option V → Option V → Option V → Bool) (gives : Option V → Option V → Option V → V → Type 0) where
  abbrev Apart : List (K × EitherOrBoth V (EitherOrBoth V V)) → List (K × Marked V) → Type 0
  Apart zs rows = KeptAs (BecameUnless eq can gives) zs (kept settled_value rows) × (kept unresolved_versions rows ≡ kept (unresolved eq can) zs)

  -- what the rows with one row before them have apart
  apart_more : (z : K × EitherOrBoth V (EitherOrBoth V V)) (zs : List (K × EitherOrBoth V (EitherOrBoth V V))) (m : Option (Marked V)) (ts : List (K × Marked V))
      → MarkedAs eq can gives z.1 m → Apart zs ts → Apart (z ∷ zs) (with_row z.0 m ts)
  apart_more z zs None ts r h = ((None, (λ _. r.1), (kept settled_value ts, h.0, refl)), rw r.0 h.1)
  apart_more z zs (Some (Settled w)) ts r h = ((Some w, (λ _. r.1), (kept settled_value ts, h.0, refl)), rw r.0 h.1)
  apart_more z zs (Some (Unresolved same)) ts r h = (
    (None, (λ n. absurd (true≢false (sym r.0 ∙ n))), (kept settled_value ts, h.0, refl)),
    rw r.0 (ap (λ v. (z.0, v) ∷ kept unresolved_versions ts) r.1 ∙ ap (λ l. (z.0, z.1) ∷ l) h.1),
  )

  apart : (zs : List (K × EitherOrBoth V (EitherOrBoth V V))) (rows : List (K × Marked V)) → KeptAs (MarkedAs eq can gives) zs rows → Apart zs rows
  apart [] rows h = (ap (kept settled_value) h, ap (kept unresolved_versions) h)
  apart (z ∷ zs) rows h = subst (Apart (z ∷ zs)) (sym h.2.2) (apart_more z zs h.0 h.2.0 h.1 (apart zs h.2.0 h.2.1))

  parted_as : {M : Type 0} (zs : List (K × EitherOrBoth V (EitherOrBoth V V))) (parted : Parted K V M) → KeptAs (BecameUnless eq can gives) zs parted.settled.items
      → parted.unresolved.items ≡ kept (unresolved eq can) zs → PartedAs eq can gives zs (merged_of parted)
  parted_as zs parted s f = elim (cases_Bool (length parted.unresolved.items == 0)) [
    | inl none ↦ rw none (sym f ∙ no_items parted.unresolved.items none, s)
    | inr some ↦ rw some (f, some_items parted.unresolved.items some)
  ]

  pub parted_law : {M : Type 0} (cmp : K → K → Ordering) (b p q : List (K × V)) (rows : List (K × Marked V)) (parted : Parted K V M)
      → IsMarkedMerge cmp eq can gives b p q rows → parted.settled.items ≡ kept settled_value rows → parted.unresolved.items ≡ kept unresolved_versions rows
      → IsPartedMerge cmp eq can gives b p q (merged_of parted)
  parted_law cmp b p q rows parted m s f =
      let two = apart m.0 rows m.2 in
      (m.0, m.1, parted_as m.0 parted (subst (KeptAs (BecameUnless eq can gives) m.0) (sym s) two.0) (f ∙ two.1))

  -- the merge by look-ups
  pub by_key : {M : Type 0} (cmp : K → K → Ordering) → IsTotalOrder cmp → (b p q : List (K × V)) (m : Merged K V M)
      → IsPartedMerge cmp eq can gives b p q m → IsMergeWith cmp eq can gives b p q m
  by_key cmp o b p q (Whole rs) h = whole_law cmp o eq can gives b p q h.0 h.1 rs.items [] h.2.1 (sym h.2.0) refl
  by_key cmp o b p q (Conflicts cs) h = (unresolved_law cmp o eq can gives b p q h.0 h.1 cs.items h.2.0, h.2.1)

-- where no row is kept by a test it passes at none, and where one is it passes at one
module _ {K V : Type 0} (f : V → Bool) where
  none_passes : (zs : List (K × V)) → kept (λ v. if f v then Some v else None) zs ≡ [] → list_any (λ z. f z.1) zs ≡ false
  none_passes [] e = refl
  none_passes (z ∷ zs) e = by_test (f z.1) (λ t. absurd (cc (rw t at e))) (λ t. rw t (none_passes zs (rw t at e)))

  some_passes : (zs : List (K × V)) → 0 < length (kept (λ v. if f v then Some v else None) zs) → list_any (λ z. f z.1) zs ≡ true
  some_passes [] e = absurd (omega (arith, e))
  some_passes (z ∷ zs) e = by_test (f z.1) (λ t. rw t refl) (λ t. rw t (some_passes zs (rw t at e)))

merged_is : {V : Type 0} (eq : V → V → Bool) (v : EitherOrBoth V (EitherOrBoth V V)) (m : Option V) → clashes eq v ≡ false
    → BecameUnless eq can_nothing GivesNothing v m → m ≡ merged eq v
merged_is eq v m t h = rw t at (h (rw t refl))

-- where no rule settles a row
module _ {K V : Type 0} (eq : V → V → Bool) where
  clash_rows : (zs : List (K × EitherOrBoth V (EitherOrBoth V V))) → kept (unresolved eq can_nothing) zs ≡ kept (clash eq) zs
  clash_rows [] = refl
  clash_rows (z ∷ zs) = by_test (clashes eq z.1) (λ t. rw t (ap (λ l. (z.0, z.1) ∷ l) (clash_rows zs))) (λ t. rw t (clash_rows zs))

  with_merged : (z : K × EitherOrBoth V (EitherOrBoth V V)) (zs : List (K × EitherOrBoth V (EitherOrBoth V V))) (m : Option V)
      → m ≡ merged eq z.1 → with_row z.0 m (kept (merged eq) zs) ≡ kept (merged eq) (z ∷ zs)
  with_merged z zs None e = rw (sym e) refl
  with_merged z zs (Some w) e = rw (sym e) refl

  merged_rows : (zs : List (K × EitherOrBoth V (EitherOrBoth V V))) (rs : List (K × V)) → KeptAs (BecameUnless eq can_nothing GivesNothing) zs rs
      → list_any (λ z. clashes eq z.1) zs ≡ false → rs ≡ kept (merged eq) zs
  merged_rows [] rs h e = h
  merged_rows (z ∷ zs) rs h e = by_test (clashes eq z.1) (λ t. absurd (true≢false (rw t at e)))
      (λ t. h.2.2 ∙ ap (with_row z.0 h.0) (merged_rows zs h.2.0 h.2.1 (rw t at e)) ∙ with_merged z zs h.0 (merged_is eq z.1 h.0 t h.1))

  pub by_row : {M : Type 0} (cmp : K → K → Ordering) (b p q : List (K × V)) (m : Merged K V M)
      → IsPartedMerge cmp eq can_nothing GivesNothing b p q m → IsMerge cmp eq b p q m
  by_row cmp b p q (Whole rs) h =
      let none : list_any (λ z. clashes eq z.1) h.0 ≡ false = none_passes (clashes eq) h.0 (sym (clash_rows h.0) ∙ h.2.0) in
      (h.0, h.1, none, merged_rows h.0 rs.items h.2.1 none)
  by_row cmp b p q (Conflicts cs) h =
      let are : cs.items ≡ kept (clash eq) h.0 = h.2.0 ∙ clash_rows h.0 in
      (h.0, h.1, some_passes (clashes eq) h.0 (subst (λ l. 0 < length l) are h.2.1), are)
