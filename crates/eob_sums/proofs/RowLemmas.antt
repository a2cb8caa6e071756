-- Counts of rows by variant, and what is kept of rows.
use Rattle.std.proofs.Common.{◌≡◌, ◌∙◌, ◌+◌, true, cond, List, [], ◌∷◌, length, Option, Some, None, option_map, arith, refl, sym, ap, subst}
use Rattle.std.specs.Prelude.{count_by, is_none, is_some}
use Rattle.std.specs.Cmp.{IsTotalOrder}
use Rattle.std.specs.Option.{option_and_then, option_or, option_zip}
use Rattle.std.specs.Ordering.{is_eq}
use Rattle.std.specs.declared.cmp.Ordering.{Ordering}
use Rattle.std.specs.declared.cmp.Ordering.TheVariants.{Less, Equal}
use Rattle.std.proofs.lemmas.List.Sums.{sum_by-cons}
use Rattle.eob_both.specs.declared.either_or_both.EitherOrBoth.{EitherOrBoth}
use Rattle.eob_both.specs.declared.either_or_both.EitherOrBoth.TheVariants.{Left, Both, Right}
use Rattle.eob_both.specs.Places.{from_places, left_place, right_place}
use Rattle.eob_lists.specs.Join.{Rising, value_under}
use Rattle.eob_lists.specs.JoinLaws.{overlaid}
use Rattle.eob_lists.proofs.MergeLemmas.{Up, is_Equal, rising, up}
use Rattle.eob_joins.specs.Tables.{IsKeptOfJoin, IsLeftJoin, SameRows, Tabulates, kept}
use Rattle.eob_joins.proofs.TableLemmas.{by_test, kept_join, kept_law, same_table}
use Rattle.eob_joins.proofs.AlikeLemmas.{same_rows}
use Rattle.eob_sums.specs.Sums.{with_rights}
use Rattle.std.specs.Prelude.{⊤}

-- every row has its left value alone, its right value alone, or both
pub row_counts : {K L R : Type 0} (zs : List (K × EitherOrBoth L R))
    → count_by (λ z. is_none (right_place z.1)) zs + count_by (λ z. is_none (left_place z.1)) zs
    + count_by (λ z. is_some (option_zip (left_place z.1) (right_place z.1))) zs ≡ length zs
row_counts [] = refl
row_counts {K = K} {L = L} {R = R} ((k, Left l) ∷ zs) =
    omega (
      arith,
      row_counts zs,
      sum_by-cons (λ (z : K × EitherOrBoth L R). cond (is_none (right_place z.1)) 1 0) (k, Left l) zs,
      sum_by-cons (λ (z : K × EitherOrBoth L R). cond (is_none (left_place z.1)) 1 0) (k, Left l) zs,
      sum_by-cons (λ (z : K × EitherOrBoth L R). cond (is_some (option_zip (left_place z.1) (right_place z.1))) 1 0) (k, Left l) zs,
    )
row_counts {K = K} {L = L} {R = R} ((k, Both l r) ∷ zs) =
    omega (
      arith,
      row_counts zs,
      sum_by-cons (λ (z : K × EitherOrBoth L R). cond (is_none (right_place z.1)) 1 0) (k, Both l r) zs,
      sum_by-cons (λ (z : K × EitherOrBoth L R). cond (is_none (left_place z.1)) 1 0) (k, Both l r) zs,
      sum_by-cons (λ (z : K × EitherOrBoth L R). cond (is_some (option_zip (left_place z.1) (right_place z.1))) 1 0) (k, Both l r) zs,
    )
row_counts {K = K} {L = L} {R = R} ((k, Right r) ∷ zs) =
    omega (
      arith,
      row_counts zs,
      sum_by-cons (λ (z : K × EitherOrBoth L R). cond (is_none (right_place z.1)) 1 0) (k, Right r) zs,
      sum_by-cons (λ (z : K × EitherOrBoth L R). cond (is_none (left_place z.1)) 1 0) (k, Right r) zs,
      sum_by-cons (λ (z : K × EitherOrBoth L R). cond (is_some (option_zip (left_place z.1) (right_place z.1))) 1 0) (k, Right r) zs,
    )

-- the upper value of two places
upper_is : {V : Type 0} (m n : Option V) → option_and_then (λ v. Some (overlaid v)) (from_places m n) ≡ option_or n m
upper_is None None = refl
upper_is None (Some b) = refl
upper_is (Some a) None = refl
upper_is (Some a) (Some b) = refl

-- a left value with the right place
abbrev paired : {A B : Type 0} → A → Option B → Option (A × Option B)
paired a m = Some (a, m)

module _ {K : Type 0} (cmp : K → K → Ordering) (o : IsTotalOrder cmp) where
  pub kept_rows : {V W : Type 0} (f : V → Option W) (table : List (K × V)) (rows : List (K × W)) → Rising cmp table → rows ≡ kept f table
      → Tabulates cmp rows (λ k. option_and_then f (value_under cmp table k))
  kept_rows {V} {W} f table rows h e =
      subst (λ l. Tabulates cmp l (λ k. option_and_then f (value_under cmp table k))) (sym e)
      (kept_law cmp o V W f (value_under cmp table) table (record { rises = h; values = λ k. refl }))

  pub kept_overlaid : {V : Type 0} (p q rows : List (K × V)) → IsKeptOfJoin cmp (λ v. Some (overlaid v)) p q rows → (k : K)
      → value_under cmp rows k ≡ option_or (value_under cmp q k) (value_under cmp p k)
  kept_overlaid {V} p q rows h k =
      (kept_join cmp o V V V rows (λ v. Some (overlaid v)) p q h).values k ∙ upper_is (value_under cmp p k) (value_under cmp q k)

  -- keys that compare as equal have one value
  alike_value : {B : Type 0} (xs : List (K × B)) (j k : K) → cmp j k ≡ Equal → value_under cmp xs j ≡ value_under cmp xs k
  alike_value [] j k e = refl
  alike_value (x ∷ xs) j k e =
      let same : cmp j x.0 ≡ cmp k x.0 = o.congr j k x.0 e in
      rw same (by_test (is_eq (cmp k x.0)) (λ t. rw t refl) (λ f. rw f (alike_value xs j k e)))

  module _ {A B : Type 0} (q : List (K × B)) where
    rights_up : (P : K → Type 0) (p : List (K × A)) → Up cmp P p → Up cmp P (with_rights cmp q p)
    rights_up P [] h = tt
    rights_up P (x ∷ xs) h = (h.0, rights_up (λ k. cmp x.0 k ≡ Less) xs h.1)

    pair_value : (a : A) (j k : K) → is_eq (cmp k j) ≡ true → paired a (value_under cmp q j) ≡ paired a (value_under cmp q k)
    pair_value a j k t = ap (paired a) (sym (alike_value q k j (is_Equal (cmp k j) t)))

    rights_value : (p : List (K × A)) (k : K) → value_under cmp (with_rights cmp q p) k ≡ option_map (λ a. (a, value_under cmp q k)) (value_under cmp p k)
    rights_value [] k = refl
    rights_value (x ∷ xs) k =
        by_test (is_eq (cmp k x.0))
        (λ t. rw t (pair_value x.1 x.0 k t))
        (λ f. rw f (rights_value xs k))

    rights_table : (p : List (K × A)) → Rising cmp p → Tabulates cmp (with_rights cmp q p) (λ k. option_map (λ a. (a, value_under cmp q k)) (value_under cmp p k))
    rights_table p h = record {
      rises = rising cmp (λ k. ⊤) (with_rights cmp q p) (rights_up (λ k. ⊤) p (up cmp p h));
      values = rights_value p;
    }

    pub left_rows_alike : (p : List (K × A)) (rows : List (K × (A × Option B))) → Rising cmp p → IsLeftJoin cmp p q rows → SameRows cmp rows (with_rights cmp q p)
    left_rows_alike p rows h j = same_rows cmp o (A × Option B) _ rows (with_rights cmp q p) j (rights_table p h)

    pub left_rows_same : ((j k : K) → cmp j k ≡ Equal → j ≡ k) → (p : List (K × A)) (rows : List (K × (A × Option B))) → Rising cmp p
        → IsLeftJoin cmp p q rows → rows ≡ with_rights cmp q p
    left_rows_same exact p rows h j = same_table cmp o (A × Option B) exact _ rows (with_rights cmp q p) j (rights_table p h)
