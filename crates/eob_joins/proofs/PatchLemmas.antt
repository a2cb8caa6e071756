-- A table with the changes made to it that lead to another: it is the other, as far as keys and values count as equal.
use Rattle.std.proofs.Common.{◌≡◌, ◌∙◌, Bool, true, List, [], ◌∷◌, Option, Some, None, refl, sym, ap, true≢false}
use Rattle.std.specs.Prelude.{⊤}
use Rattle.std.specs.Cmp.{IsTotalOrder, alike_right}
use Rattle.std.specs.List.{AllZip}
use Rattle.std.specs.Option.{option_and_then, option_eq}
use Rattle.std.specs.Ordering.{is_eq}
use Rattle.std.specs.declared.cmp.Ordering.{Ordering}
use Rattle.std.specs.declared.cmp.Ordering.TheVariants.{Less, Equal}
use Rattle.eob_both.specs.declared.either_or_both.EitherOrBoth.{EitherOrBoth}
use Rattle.eob_both.specs.Places.{from_places}
use Rattle.eob_lists.specs.Join.{value_under}
use Rattle.eob_lists.proofs.JoinLemmas.{own_head}
use Rattle.eob_lists.proofs.MergeLemmas.{Up, absent, absent_alike, by_order, flipped_order, up}
use Rattle.eob_joins.specs.Changes.{ChangedAlikeLaw, PatchedLaw, applied, changed}
use Rattle.eob_joins.proofs.TableLemmas.{by_test, kept_join}

pub applied_alike : {V : Type 0} (eq : V → V → Bool) → ((v : V) → eq v v ≡ true) → ChangedAlikeLaw eq
applied_alike eq itself None None = refl
applied_alike eq itself None (Some w) = itself w
applied_alike eq itself (Some v) None = refl
applied_alike eq itself (Some v) (Some w) = by_test (eq v w) (λ t. rw (t, t) refl) (λ f. rw f (itself w))

module _ {K V : Type 0} (cmp : K → K → Ordering) (o : IsTotalOrder cmp) (eq : V → V → Bool) where
  abbrev Alike : List (K × V) → List (K × V) → K → Type 0
  Alike xs ys k = option_eq eq (value_under cmp xs k) (value_under cmp ys k) ≡ true

  -- what two lists with equal first keys have alike under a key, they have after those too
  alike_after : (x y : K × V) (xs ys : List (K × V)) → Up cmp (λ k. cmp x.0 k ≡ Less) xs → Up cmp (λ k. cmp y.0 k ≡ Less) ys → cmp x.0 y.0 ≡ Equal
      → (k : K) → Alike (x ∷ xs) (y ∷ ys) k → Alike xs ys k
  alike_after x y xs ys g h l k e =
      let alike : cmp k x.0 ≡ cmp k y.0 = alike_right o x.0 y.0 k l in
      by_test (is_eq (cmp k x.0))
      (λ t. rw (absent_alike cmp o k x.0 t xs g, absent_alike cmp o k y.0 (sym (ap is_eq alike) ∙ t) ys h) refl)
      (λ f. rw (← alike, f) at e)

  -- lists with strictly increasing keys that have alike values under each key are alike pair by pair
  pub alike_values : (P Q : K → Type 0) (xs ys : List (K × V)) → Up cmp P xs → Up cmp Q ys → ((k : K) → Alike xs ys k)
      → AllZip (λ x y. (cmp x.0 y.0 ≡ Equal) × (eq x.1 y.1 ≡ true)) xs ys
  alike_values P Q [] [] g h e = tt
  alike_values P Q [] (y ∷ ys) g h e = let c = rw (own_head cmp o y ys) at (e y.0) in absurd (true≢false (sym c))
  alike_values P Q (x ∷ xs) [] g h e = let c = rw (own_head cmp o x xs) at (e x.0) in absurd (true≢false (sym c))
  alike_values P Q (x ∷ xs) (y ∷ ys) g h e =
      by_order (cmp x.0 y.0)
      (λ l. let c = rw (own_head cmp o x xs, absent cmp o x.0 (y ∷ ys) (l, h.1)) at (e x.0) in absurd (true≢false (sym c)))
      (λ l.
      let here : value_under cmp (y ∷ ys) x.0 ≡ Some y.1 = rw l refl in
      let c : eq x.1 y.1 ≡ true = rw (own_head cmp o x xs, here) at (e x.0) in
      ((l, c), alike_values (λ k. cmp x.0 k ≡ Less) (λ k. cmp y.0 k ≡ Less) xs ys g.1 h.1 (λ k. alike_after x y xs ys g.1 h.1 l k (e k))))
      (λ l. let c = rw (own_head cmp o y ys, absent cmp o y.0 (x ∷ xs) (flipped_order cmp o x.0 y.0 l, g.1)) at (e y.0) in absurd (true≢false (sym c)))

  pub patched : ((v : V) → eq v v ≡ true) → PatchedLaw cmp eq
  patched itself p q rs ds up_p up_q d a =
      let diffs = kept_join cmp o V V (EitherOrBoth V V) ds (changed eq) p q d in
      let made = kept_join cmp o V (EitherOrBoth V V) V rs applied p ds a in
      alike_values (λ k. ⊤) (λ k. ⊤) rs q (up cmp rs made.rises) (up cmp q up_q)
      (λ k.
      let found : value_under cmp rs k ≡ option_and_then applied (from_places (value_under cmp p k) (option_and_then (changed eq) (from_places (value_under cmp p k) (value_under cmp q k)))) =
      made.values k ∙ ap (λ m. option_and_then applied (from_places (value_under cmp p k) m)) (diffs.values k) in
      ap (λ m. option_eq eq m (value_under cmp q k)) found ∙ applied_alike eq itself (value_under cmp p k) (value_under cmp q k))
