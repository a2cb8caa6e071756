-- Rows of which no two have one key: what is gathered of them in any order.
use Rattle.std.proofs.Common.{◌≡◌, ◌∙◌, ◌≤◌, List, [], ◌∷◌, length, filter, map, IsPermutation, arith, true, ap, refl}
use Rattle.std.proofs.lemmas.List.Sorted.{IsPermutation-sym, IsPermutation-trans}
use Rattle.std.specs.Prelude.{⊤}
use Rattle.std.specs.Cmp.{IsTotalOrder}
use Rattle.std.specs.Map.{values_of}
use Rattle.std.specs.Ordering.{is_eq}
use Rattle.std.specs.declared.cmp.Ordering.{Ordering}
use Rattle.std.specs.declared.cmp.Ordering.TheVariants.{Less, Equal}
use Rattle.eob_lists.specs.Join.{Rising}
use Rattle.eob_lists.proofs.MergeLemmas.{Up, is_Equal, rising, up_weaker}
use Rattle.eob_joins.specs.Groups.{group_under, some_items}
use Rattle.eob_joins.proofs.TableLemmas.{by_test, same_table}
use Rattle.keyed_tables.specs.Gathered.{HoldsRows, alone}
use Rattle.keyed_tables.proofs.GatherLemmas.{alone_law}
use Rattle.command_callers.proofs.KeptOnce.{kept_once}

module _ {K V : Type 0} (cmp : K → K → Ordering) (o : IsTotalOrder cmp) where
  none_after : (k j : K) → is_eq (cmp k j) ≡ true → (rows : List (K × V)) → Up cmp (λ i. cmp j i ≡ Less) rows → filter (λ x. is_eq (cmp k x.0)) rows ≡ []
  none_after k j e [] h = refl
  none_after k j e (row ∷ rows) h =
      let l : cmp k row.0 ≡ Less = o.congr k j row.0 (is_Equal (cmp k j) e) ∙ h.0 in
      rw l (none_after k j e rows (up_weaker cmp (λ i. cmp row.0 i ≡ Less) (λ i. cmp j i ≡ Less) (λ i m. o.trans j row.0 i h.0 m) rows h.1))

  one_at_most : (P : K → Type 0) (k : K) (rows : List (K × V)) → Up cmp P rows → length (filter (λ x. is_eq (cmp k x.0)) rows) ≤ 1
  one_at_most P k [] h = omega arith
  one_at_most P k (row ∷ rows) h =
      by_test (is_eq (cmp k row.0))
      (λ t. rw (t, none_after k row.0 t rows h.1) (omega arith))
      (λ f. rw f (one_at_most (λ i. cmp row.0 i ≡ Less) k rows h.1))

  up_alone : (P : K → Type 0) (rows : List (K × V)) → Up cmp P rows → Up cmp P (map alone rows)
  up_alone P [] h = tt
  up_alone P (row ∷ rows) h = (h.0, up_alone (λ k. cmp row.0 k ≡ Less) rows h.1)

  -- rows, each as a group of its own, strictly increase as the rows do
  pub alone_rise : (rows : List (K × V)) → Up cmp (λ k. ⊤) rows → Rising cmp (map alone rows)
  alone_rise rows h = rising cmp (λ k. ⊤) (map alone rows) (up_alone (λ k. ⊤) rows h)

  -- what is gathered of rows in any order, of which no two have one key, is each row as a group of its own
  pub gathered : ((j k : K) → cmp j k ≡ Equal → j ≡ k) → (rows read : List (K × V)) (table : List (K × List V)) → Up cmp (λ k. ⊤) rows → IsPermutation read rows
      → HoldsRows cmp read table → table ≡ map alone rows
  gathered exact rows read table h moved held =
      let there : IsPermutation rows held.0 = IsPermutation-trans rows read held.0 (IsPermutation-sym read rows moved) held.1 in
      let own = alone_law cmp o V rows (alone_rise rows h) in
      same_table cmp o (List V) exact (group_under cmp rows) table (map alone rows)
      (record {
        rises = held.2.rises;
        values = λ k. held.2.values k ∙ ap (λ l. some_items (values_of l)) (kept_once (λ x. is_eq (cmp k x.0)) rows held.0 there (one_at_most (λ k. ⊤) k rows h));
      })
      (record { rises = own.rises; values = own.values })
