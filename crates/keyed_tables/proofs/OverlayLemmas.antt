-- The rows of a join with another value each.
use Rattle.std.proofs.Common.{◌≡◌, ◌∙◌, ℕ, List, [], ◌∷◌, map, zip, Option, Some, None, option_map, refl, sym, ap, subst, Bor, ⊎_elim}
use Rattle.std.specs.Prelude.{⊤}
use Rattle.std.specs.Iterator.{YieldsFirstRef}
use Rattle.std.specs.Iterator.Adapters.{zip_first, zip_second, zip_steps}
use Rattle.std.specs.Map.{keys_of}
use Rattle.std.specs.Ordering.{is_eq}
use Rattle.std.specs.declared.cmp.Ordering.{Ordering}
use Rattle.std.specs.declared.cmp.Ordering.TheVariants.{Less}
use Rattle.std.specs.declared.iter.Zip.{Zip}
use Rattle.eob_both.specs.declared.either_or_both.EitherOrBoth.{EitherOrBoth}
use Rattle.eob_lists.specs.Join.{IsJoin, Rising, value_under}
use Rattle.eob_lists.proofs.MergeLemmas.{Up, rising, up}
use Rattle.eob_joins.proofs.TableLemmas.{by_test}
use Rattle.keyed_tables.specs.Laid.{IsLaidBy, cell_over}

module _ {K : Type 0} (cmp : K → K → Ordering) {V W : Type 0} (f : V → W) where
  value_mapped : (zs : List (K × V)) (k : K) → value_under cmp (map (λ z. (z.0, f z.1)) zs) k ≡ option_map f (value_under cmp zs k)
  value_mapped [] k = refl
  value_mapped (z ∷ zs) k = by_test (is_eq (cmp k z.0)) (λ t. rw t refl) (λ e. rw e (value_mapped zs k))

  up_mapped : (P : K → Type 0) (zs : List (K × V)) → Up cmp P zs → Up cmp P (map (λ z. (z.0, f z.1)) zs)
  up_mapped P [] h = tt
  up_mapped P (z ∷ zs) h = (h.0, up_mapped (λ k. cmp z.0 k ≡ Less) zs h.1)

  -- the keys strictly increase where those of the join do
  pub mapped_rises : (zs : List (K × V)) (rs : List (K × W)) → rs ≡ map (λ z. (z.0, f z.1)) zs → Rising cmp zs → Rising cmp rs
  mapped_rises zs rs e h = subst (Rising cmp) (sym e) (rising cmp (λ k. ⊤) (map (λ z. (z.0, f z.1)) zs) (up_mapped (λ k. ⊤) zs (up cmp zs h)))

  -- and they are the same keys
  pub mapped_keys : (zs : List (K × V)) (rs : List (K × W)) → rs ≡ map (λ z. (z.0, f z.1)) zs → keys_of rs ≡ keys_of zs
  mapped_keys [] rs e = ap keys_of e
  mapped_keys (z ∷ zs) rs e = ap keys_of e ∙ ap (λ l. z.0 ∷ l) (mapped_keys zs (map (λ z. (z.0, f z.1)) zs) refl)

module _ {K : Type 0} (cmp : K → K → Ordering) {A B W : Type 0} (f : EitherOrBoth A B → W) where
  -- under each key stands what is made of both values
  pub laid_by : (p : List (K × A)) (q : List (K × B)) (zs : List (K × EitherOrBoth A B)) (rs : List (K × W)) → rs ≡ map (λ z. (z.0, f z.1)) zs → IsJoin cmp p q zs
      → IsLaidBy cmp f p q rs
  laid_by p q zs rs e j k = ap (λ l. value_under cmp l k) e ∙ value_mapped cmp f zs k ∙ ap (option_map f) (j.values k)

no_cells : (a : List (List ℕ)) → map cell_over (zip a []) ≡ []
no_cells [] = refl
no_cells (x ∷ xs) = refl

-- where one of two rows of cells has ended, no cells are left to lay
pub no_pairs : (s t : Zip (List (List ℕ)) (List (List ℕ))) (r : Option (Bor (List ℕ) × Bor (List ℕ))) → r ≡ None
    → zip_steps (YieldsFirstRef (λ cells. cells)) (YieldsFirstRef (λ cells. cells)) s r t → map cell_over (zip (zip_first s) (zip_second s)) ≡ []
no_pairs s t (Some p) e h = absurd (cc)
no_pairs s t None e h =
    ⊎_elim
    (λ g. ap (λ l. map cell_over (zip l (zip_second s))) g.1.0)
    (λ g. ap (λ l. map cell_over (zip (zip_first s) l)) g.1.0 ∙ no_cells (zip_first s))
    h
