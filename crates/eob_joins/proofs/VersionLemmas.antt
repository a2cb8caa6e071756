-- Three versions of a table by look-ups, and what a merge of them has under each key.
use Rattle.std.proofs.Common.{◌≡◌, ◌∙◌, ◌<◌, Bool, true, false, List, [], ◌∷◌, length, Option, Some, None, arith, refl, sym, ap, subst, true≢false}
use Rattle.std.specs.Prelude.{if◌then◌else◌}
use Rattle.std.specs.Cmp.{IsTotalOrder}
use Rattle.std.specs.List.{list_any}
use Rattle.std.specs.Option.{option_and_then, option_eq}
use Rattle.std.specs.declared.cmp.Ordering.{Ordering}
use Rattle.eob_both.specs.declared.either_or_both.EitherOrBoth.{EitherOrBoth}
use Rattle.eob_both.specs.Places.{from_places}
use Rattle.eob_lists.specs.Join.{value_under}
use Rattle.eob_joins.specs.declared.versions.Verdict.TheVariants.{Unchanged, Ours, Theirs, Alike}
use Rattle.eob_joins.specs.declared.versions.Merged.{Merged}
use Rattle.eob_joins.specs.declared.versions.Merged.TheVariants.{Whole, Conflicts}
use Rattle.eob_joins.specs.Tables.{Tabulates, kept}
use Rattle.eob_joins.specs.Versions.{IsVersionJoin, MergeLaw, MergedPlaceLaw, VersionsLaw, clash, clash_place, clashes, is_conflict, merged, merged_place, verdict, verdict_of}
use Rattle.eob_joins.proofs.TableLemmas.{by_test, kept_law, retabled}

merged_is : {V : Type 0} (eq : V → V → Bool) (m n l : Option V) → option_and_then (merged eq) (from_places m (from_places n l)) ≡ merged_place eq m n l
merged_is eq None None None = refl
merged_is eq None None (Some t) = refl
merged_is eq None (Some o) None = refl
merged_is eq None (Some o) (Some t) = refl
merged_is eq (Some b) None None = refl
merged_is eq (Some b) None (Some t) = refl
merged_is eq (Some b) (Some o) None = refl
merged_is eq (Some b) (Some o) (Some t) = refl

clash_is : {V : Type 0} (eq : V → V → Bool) (m n l : Option V) → option_and_then (clash eq) (from_places m (from_places n l)) ≡ clash_place eq m n l
clash_is eq None None None = refl
clash_is eq None None (Some t) = refl
clash_is eq None (Some o) None = refl
clash_is eq None (Some o) (Some t) = refl
clash_is eq (Some b) None None = refl
clash_is eq (Some b) None (Some t) = refl
clash_is eq (Some b) (Some o) None = refl
clash_is eq (Some b) (Some o) (Some t) = refl

none_if : {V : Type 0} (t : Bool) (v : V) → (if t then Some v else None) ≡ None → t ≡ false
none_if true v e = absurd (cc)
none_if false v e = refl

-- where there is nothing of a conflict, there is none
no_conflict : {V : Type 0} (eq : V → V → Bool) (m n l : Option V) → clash_place eq m n l ≡ None → is_conflict (verdict eq m n l) ≡ false
no_conflict eq None None None e = refl
no_conflict eq None None (Some t) e = refl
no_conflict eq None (Some o) None e = refl
no_conflict eq None (Some o) (Some t) e = none_if _ _ e
no_conflict eq (Some b) None None e = refl
no_conflict eq (Some b) None (Some t) e = none_if _ _ e
no_conflict eq (Some b) (Some o) None e = none_if _ _ e
no_conflict eq (Some b) (Some o) (Some t) e = none_if _ _ e

-- what a test keeps of rows, by whether it passes at one of them
module _ {K V : Type 0} (f : V → Bool) where
  none_kept : (zs : List (K × V)) → list_any (λ z. f z.1) zs ≡ false → kept (λ v. if f v then Some v else None) zs ≡ []
  none_kept [] e = refl
  none_kept (z ∷ zs) e = by_test (f z.1) (λ t. absurd (true≢false (rw t at e))) (λ t. rw t (none_kept zs (rw t at e)))

  some_kept : (zs : List (K × V)) → list_any (λ z. f z.1) zs ≡ true → 0 < length (kept (λ v. if f v then Some v else None) zs)
  some_kept [] e = absurd (true≢false (sym e))
  some_kept (z ∷ zs) e = by_test (f z.1) (λ t. rw t (omega arith)) (λ t. rw t (some_kept zs (rw t at e)))

module _ {K : Type 0} (cmp : K → K → Ordering) where
  pub versions_law : (V : Type 0) → VersionsLaw cmp V
  versions_law V b p q rs h = record { rises = h.2.rises; values = λ k. h.2.values k ∙ ap (from_places (value_under cmp b k)) (h.1.values k) }

  module _ (o : IsTotalOrder cmp) {V : Type 0} (eq : V → V → Bool) (b p q : List (K × V)) where
    abbrev triple : K → Option (EitherOrBoth V (EitherOrBoth V V))
    triple k = from_places (value_under cmp b k) (from_places (value_under cmp p k) (value_under cmp q k))

    module _ (zs : List (K × EitherOrBoth V (EitherOrBoth V V))) (j : IsVersionJoin cmp b p q zs) where
      merged_table : Tabulates cmp (kept (merged eq) zs) (λ k. merged_place eq (value_under cmp b k) (value_under cmp p k) (value_under cmp q k))
      merged_table =
          retabled cmp (kept (merged eq) zs) _ _ (λ k. merged_is eq (value_under cmp b k) (value_under cmp p k) (value_under cmp q k))
          (kept_law cmp o (EitherOrBoth V (EitherOrBoth V V)) V (merged eq) triple zs (versions_law V b p q zs j))

      clash_table : Tabulates cmp (kept (clash eq) zs) (λ k. clash_place eq (value_under cmp b k) (value_under cmp p k) (value_under cmp q k))
      clash_table =
          retabled cmp (kept (clash eq) zs) _ _ (λ k. clash_is eq (value_under cmp b k) (value_under cmp p k) (value_under cmp q k))
          (kept_law cmp o (EitherOrBoth V (EitherOrBoth V V)) (EitherOrBoth V (EitherOrBoth V V)) (clash eq) triple zs (versions_law V b p q zs j))

      no_clash : list_any (λ z. clashes eq z.1) zs ≡ false → (k : K) → is_conflict (verdict eq (value_under cmp b k) (value_under cmp p k) (value_under cmp q k)) ≡ false
      no_clash none k =
          no_conflict eq (value_under cmp b k) (value_under cmp p k) (value_under cmp q k)
          (sym (clash_table.values k) ∙ ap (λ l. value_under cmp l k) (none_kept (clashes eq) zs none))

  pub merge_law : IsTotalOrder cmp → {V M : Type 0} (eq : V → V → Bool) (m : Merged K V M) → MergeLaw cmp eq m
  merge_law o eq (Whole rs) b p q h =
      (subst (λ l. Tabulates cmp l (λ k. merged_place eq (value_under cmp b k) (value_under cmp p k) (value_under cmp q k))) (sym h.3) (merged_table o eq b p q h.0 h.1), no_clash o eq b p q h.0 h.1 h.2)
  merge_law o eq (Conflicts cs) b p q h = (
    subst (λ l. Tabulates cmp l (λ k. clash_place eq (value_under cmp b k) (value_under cmp p k) (value_under cmp q k))) (sym h.3) (clash_table o eq b p q h.0 h.1),
    subst (λ l. 0 < length l) (sym h.3) (some_kept (clashes eq) h.0 h.2),
  )

-- the merged value by the three answers
module _ {V : Type 0} (eq : V → V → Bool) where
  when_unchanged : (s t u : Bool) (p q : Option V) → verdict_of s t u ≡ Unchanged → ((if s then q else p) ≡ q) × (t ≡ true)
  when_unchanged true true u p q e = (refl, refl)
  when_unchanged true false u p q e = absurd (cc)
  when_unchanged false true u p q e = absurd (cc)
  when_unchanged false false true p q e = absurd (cc)
  when_unchanged false false false p q e = absurd (cc)

  when_ours : (s t u : Bool) (p q : Option V) → verdict_of s t u ≡ Ours → (if s then q else p) ≡ p
  when_ours true true u p q e = absurd (cc)
  when_ours true false u p q e = absurd (cc)
  when_ours false true u p q e = refl
  when_ours false false true p q e = absurd (cc)
  when_ours false false false p q e = absurd (cc)

  when_theirs : (s t u : Bool) (p q : Option V) → verdict_of s t u ≡ Theirs → (if s then q else p) ≡ q
  when_theirs true true u p q e = absurd (cc)
  when_theirs true false u p q e = refl
  when_theirs false true u p q e = absurd (cc)
  when_theirs false false true p q e = absurd (cc)
  when_theirs false false false p q e = absurd (cc)

  when_alike : (s t u : Bool) (p q : Option V) → verdict_of s t u ≡ Alike → ((if s then q else p) ≡ p) × (u ≡ true)
  when_alike true true u p q e = absurd (cc)
  when_alike true false u p q e = absurd (cc)
  when_alike false true u p q e = absurd (cc)
  when_alike false false true p q e = (refl, refl)
  when_alike false false false p q e = absurd (cc)

  pub merged_places : MergedPlaceLaw eq
  merged_places = record {
    unchanged = λ b p q e. when_unchanged (option_eq eq b p) (option_eq eq b q) (option_eq eq p q) p q e;
    ours = λ b p q e. when_ours (option_eq eq b p) (option_eq eq b q) (option_eq eq p q) p q e;
    theirs = λ b p q e. when_theirs (option_eq eq b p) (option_eq eq b q) (option_eq eq p q) p q e;
    alike = λ b p q e. when_alike (option_eq eq b p) (option_eq eq b q) (option_eq eq p q) p q e;
  }
