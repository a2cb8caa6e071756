-- Tables that are one as far as keys and values count as equal.
use Rattle.std.proofs.Common.{◌≡◌, ◌∙◌, Bool, true, false, List, [], ◌∷◌, Option, Some, None, refl, sym, ap, true≢false}
use Rattle.std.specs.Prelude.{⊤}
use Rattle.std.specs.Cmp.{IsEquivalence, IsTotalOrder, alike_right}
use Rattle.std.specs.Option.{option_and_then, option_eq}
use Rattle.std.specs.Ordering.{is_eq}
use Rattle.std.specs.declared.cmp.Ordering.{Ordering}
use Rattle.std.specs.declared.cmp.Ordering.TheVariants.{Equal}
use Rattle.eob_both.specs.declared.either_or_both.EitherOrBoth.{EitherOrBoth}
use Rattle.eob_both.specs.declared.either_or_both.EitherOrBoth.TheVariants.{Both}
use Rattle.eob_both.specs.Places.{from_places, right_place}
use Rattle.eob_both.specs.Order.{places_eq}
use Rattle.eob_lists.specs.Join.{value_under}
use Rattle.eob_lists.proofs.JoinLemmas.{same_values}
use Rattle.eob_lists.proofs.MergeLemmas.{up}
use Rattle.eob_joins.specs.Tables.{AlikeRows, AlikeRowsLaw, SameRowsLaw, kept}
use Rattle.eob_joins.specs.Laws.{CopyRowsLaw, RightRowsLaw, SelfRowsLaw, doubled}
use Rattle.eob_joins.proofs.PatchLemmas.{alike_values}
use Rattle.eob_joins.proofs.TableLemmas.{by_test, kept_join, kept_law, retabled, right_is, self_is}

-- a value beside one that counts as equal counts as equal to the value on both sides
both_alike : {V : Type 0} (eq : V → V → Bool) → IsEquivalence eq → (m n : Option V) → option_eq eq m n ≡ true
    → option_eq (places_eq eq eq) (from_places m n) (option_and_then (λ v. Some (Both v v)) m) ≡ true
both_alike eq same None None e = refl
both_alike eq same None (Some w) e = absurd (true≢false (sym e))
both_alike eq same (Some v) None e = absurd (true≢false (sym e))
both_alike eq same (Some v) (Some w) e = rw (same.refl v, same.symm w v, e) refl

module _ {K : Type 0} (cmp : K → K → Ordering) (o : IsTotalOrder cmp) where
  pub same_rows : (V : Type 0) → SameRowsLaw cmp V
  same_rows V f ys zs g h = same_values cmp o (λ k. ⊤) (λ k. ⊤) ys zs (up cmp ys g.rises) (up cmp zs h.rises) (λ k. g.values k ∙ sym (h.values k))

  pub alike_rows : {V : Type 0} (eq : V → V → Bool) → AlikeRowsLaw cmp eq
  alike_rows eq f g ys zs t u e = alike_values cmp o eq (λ k. ⊤) (λ k. ⊤) ys zs (up cmp ys t.rises) (up cmp zs u.rises) (λ k. rw (t.values k, u.values k) (e k))

  pub right_rows : (A B : Type 0) → RightRowsLaw cmp A B
  right_rows A B p q zs rises j =
      same_rows B (value_under cmp q) (kept right_place zs) q
      (retabled cmp (kept right_place zs) _ (value_under cmp q) (λ k. right_is (value_under cmp p k) (value_under cmp q k)) (kept_join cmp o A B B (kept right_place zs) right_place p q (zs, j, refl)))
      (record { rises = rises; values = λ k. refl })

  pub self_rows : (V : Type 0) → SelfRowsLaw cmp V
  self_rows V p zs rises j =
      same_rows (EitherOrBoth V V) (λ k. option_and_then (λ v. Some (Both v v)) (value_under cmp p k)) zs (doubled p)
      (record { rises = j.rises; values = λ k. j.values k ∙ self_is (value_under cmp p k) })
      (kept_law cmp o V (EitherOrBoth V V) (λ v. Some (Both v v)) (value_under cmp p) p (record { rises = rises; values = λ k. refl }))

  -- lists that count as equal have values that do under each key
  alike_found : {V : Type 0} (eq : V → V → Bool) (p q : List (K × V)) → AlikeRows cmp eq p q → (k : K)
      → option_eq eq (value_under cmp p k) (value_under cmp q k) ≡ true
  alike_found eq [] [] a k = refl
  alike_found eq [] (y ∷ ys) a k = absurd a
  alike_found eq (x ∷ xs) [] a k = absurd a
  alike_found eq (x ∷ xs) (y ∷ ys) a k =
      let alike : cmp k x.0 ≡ cmp k y.0 = alike_right o x.0 y.0 k a.0.0 in
      by_test (is_eq (cmp k x.0))
      (λ t. rw (t, sym (ap is_eq alike) ∙ t) a.0.1)
      (λ f. rw (f, sym (ap is_eq alike) ∙ f) (alike_found eq xs ys a.1 k))

  pub copy_rows : {V : Type 0} (eq : V → V → Bool) → IsEquivalence eq → CopyRowsLaw cmp eq
  copy_rows {V = V} eq same p q zs rises a j =
      alike_rows (places_eq eq eq) (λ k. from_places (value_under cmp p k) (value_under cmp q k))
      (λ k. option_and_then (λ v. Some (Both v v)) (value_under cmp p k)) zs (doubled p)
      (record { rises = j.rises; values = j.values })
      (kept_law cmp o V (EitherOrBoth V V) (λ v. Some (Both v v)) (value_under cmp p) p (record { rises = rises; values = λ k. refl }))
      (λ k. both_alike eq same (value_under cmp p k) (value_under cmp q k) (alike_found eq p q a k))
