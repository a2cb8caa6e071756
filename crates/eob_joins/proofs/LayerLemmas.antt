-- Layers laid one over the other.
use Rattle.std.proofs.Common.{◌≡◌, ◌∙◌, ℕ, ◌+◌, List, [], ◌∷◌, map, Option, Some, None, option_map, refl, sym, ap, subst}
use Rattle.std.specs.Cmp.{IsTotalOrder}
use Rattle.std.specs.BTreeMap.{BTreeMap}
use Rattle.std.specs.Option.{option_and_then, option_or}
use Rattle.std.specs.Ordering.{is_eq}
use Rattle.std.specs.declared.cmp.Ordering.{Ordering}
use Rattle.std.specs.declared.cmp.Ordering.TheVariants.{Less}
use Rattle.eob_both.specs.Places.{from_places}
use Rattle.std.specs.Prelude.{⊤}
use Rattle.eob_lists.specs.Join.{Rising, value_under}
use Rattle.eob_lists.proofs.MergeLemmas.{Up, rising, up}
use Rattle.eob_lists.specs.JoinLaws.{overlaid}
use Rattle.eob_joins.specs.declared.layers.Layered.{Layered}
use Rattle.eob_joins.specs.Layers.{IsLaidOver, from_layer, layered, topmost}
use Rattle.eob_joins.specs.Tables.{IsKeptOfJoin, Tabulates}
use Rattle.eob_joins.proofs.TableLemmas.{by_test, kept_join, retabled}

-- the upper value of two places
upper_is : {V : Type 0} (m n : Option V) → option_and_then (λ v. Some (overlaid v)) (from_places m n) ≡ option_or n m
upper_is None None = refl
upper_is None (Some b) = refl
upper_is (Some a) None = refl
upper_is (Some a) (Some b) = refl

or_assoc : {V : Type 0} (a b c : Option V) → option_or (option_or a b) c ≡ option_or a (option_or b c)
or_assoc None b c = refl
or_assoc (Some a) b c = refl

pub or_none : {V : Type 0} (a : Option V) → option_or a None ≡ a
or_none None = refl
or_none (Some a) = refl

module _ {K : Type 0} (cmp : K → K → Ordering) where
  -- what a layer has under a key, with its place
  found_in : {V : Type 0} (n : ℕ) (es : List (K × V)) (k : K) → value_under cmp (map (from_layer n) es) k ≡ option_map (layered n) (value_under cmp es k)
  found_in n [] k = refl
  found_in n (e ∷ es) k = by_test (is_eq (cmp k e.0)) (λ t. rw t refl) (λ f. rw f (found_in n es k))

  up_layer : {V : Type 0} (P : K → Type 0) (n : ℕ) (es : List (K × V)) → Up cmp P es → Up cmp P (map (from_layer n) es)
  up_layer P n [] h = tt
  up_layer P n (e ∷ es) h = (h.0, up_layer (λ k. cmp e.0 k ≡ Less) n es h.1)

  pub layer_rises : {V : Type 0} (n : ℕ) (es : List (K × V)) (zs : List (K × Layered V)) → zs ≡ map (from_layer n) es → Rising cmp es → Rising cmp zs
  layer_rises n es zs e h = subst (Rising cmp) (sym e) (rising cmp (λ k. ⊤) (map (from_layer n) es) (up_layer (λ k. ⊤) n es (up cmp es h)))

  pub none_rises : {V : Type 0} (zs : List (K × V)) → zs ≡ [] → Rising cmp zs
  none_rises zs e = subst (Rising cmp) (sym e) (rising cmp (λ k. ⊤) [] tt)

  pub laid_over : IsTotalOrder cmp → {V : Type 0} (n : ℕ) (es : List (K × V)) (rs os zs : List (K × Layered V)) → os ≡ map (from_layer n) es
      → IsKeptOfJoin cmp (λ v. Some (overlaid v)) rs os zs → IsLaidOver cmp n es rs zs
  laid_over o {V = V} n es rs os zs e made =
      retabled cmp zs _ _
      (λ k. upper_is (value_under cmp rs k) (value_under cmp os k) ∙ ap (λ m. option_or m (value_under cmp rs k)) (ap (λ l. value_under cmp l k) e ∙ found_in n es k))
      (kept_join cmp o (Layered V) (Layered V) (Layered V) zs (λ v. Some (overlaid v)) rs os made)

  -- one layer more is laid over the rows, and one layer less is to come
  pub one_laid : {V : Type 0} (n : ℕ) (m : BTreeMap K V) (ms : List (BTreeMap K V)) (rs zs : List (K × Layered V)) (f : K → Option (Layered V))
      → ((k : K) → f k ≡ option_or (topmost cmp n (m ∷ ms) k) (value_under cmp rs k)) → IsLaidOver cmp n m.entries rs zs
      → (k : K) → f k ≡ option_or (topmost cmp (n + 1) ms k) (value_under cmp zs k)
  one_laid n m ms rs zs f e laid k =
      e k ∙ or_assoc (topmost cmp (n + 1) ms k) (option_map (layered n) (value_under cmp m.entries k)) (value_under cmp rs k)
      ∙ ap (option_or (topmost cmp (n + 1) ms k)) (sym (laid.values k))
