-- Changes that are completed by a join with a table.
use Rattle.std.proofs.Common.{◌≡◌, ◌∙◌, ◌++◌, ◌⊎◌, ℕ, Bool, true, List, [], ◌∷◌, arith, inl, inr, length, map, zip, Option, Some, None, option_map, refl, sym, ap, subst, ⊎_elim}
use Rattle.std.specs.Prelude.{⊤}
use Rattle.std.specs.Borrow.{Bor}
use Rattle.std.specs.Iterator.{YieldsFirstRef}
use Rattle.std.specs.Iterator.Adapters.{zip_first, zip_second, zip_steps}
use Rattle.std.specs.Option.{option_and_then}
use Rattle.std.specs.Slice.Iter.{iter_rest, iter_steps}
use Rattle.std.proofs.lemmas.List.Elements.{filter_map-append}
use Rattle.std.specs.declared.iter.Zip.{Zip}
use Rattle.std.specs.declared.slice.Iter.{Iter}
use Rattle.std.specs.Cmp.{IsTotalOrder}
use Rattle.std.specs.Cmp.Lexicographic.{bytes_decides, lists_ties, pointwise_decides, slice_cmp, texts_ties}
use Rattle.std.specs.Ordering.{is_eq, nat_cmp}
use Rattle.std.specs.declared.cmp.Ordering.{Ordering}
use Rattle.std.specs.declared.cmp.Ordering.TheVariants.{Less, Equal}
use Rattle.eob_both.specs.declared.either_or_both.EitherOrBoth.{EitherOrBoth}
use Rattle.eob_both.specs.declared.either_or_both.EitherOrBoth.TheVariants.{Left, Both, Right}
use Rattle.eob_both.specs.Places.{from_places, left_place}
use Rattle.eob_lists.specs.Join.{IsJoin, Rising, value_under}
use Rattle.eob_lists.proofs.MergeLemmas.{Up, rising, up}
use Rattle.eob_joins.specs.Tables.{Tabulates, kept}
use Rattle.eob_joins.proofs.TableLemmas.{by_test, kept_join, kept_law, retabled, same_table}
use Rattle.keyed_tables.specs.Completed.{Under, UnderChange, completed, completed_at, completed_by}
use Rattle.keyed_tables.proofs.KeyLemmas.{key_cmp, keys_total}

left_is : {A B : Type 0} (m : Option A) (n : Option B) → option_and_then left_place (from_places m n) ≡ m
left_is None None = refl
left_is None (Some b) = refl
left_is (Some a) None = refl
left_is (Some a) (Some b) = refl

completed_is : (missing : List Bool) (m : Option Under) (n : Option UnderChange)
    → option_and_then (completed_at missing) (from_places m n) ≡ option_map (completed_by missing m) n
completed_is missing None None = refl
completed_is missing None (Some change) = refl
completed_is missing (Some rows) None = refl
completed_is missing (Some rows) (Some change) = refl

module _ {K : Type 0} (cmp : K → K → Ordering) (o : IsTotalOrder cmp) (exact : (j k : K) → is_eq (cmp j k) ≡ true → j ≡ k) {V W : Type 0} (f : K → V → W) where
  -- rows with values that are made of the keys too
  up_made : (P : K → Type 0) (zs : List (K × V)) → Up cmp P zs → Up cmp P (map (λ z. (z.0, f z.0 z.1)) zs)
  up_made P [] h = tt
  up_made P (z ∷ zs) h = (h.0, up_made (λ k. cmp z.0 k ≡ Less) zs h.1)

  value_made : (zs : List (K × V)) (k : K) → value_under cmp (map (λ z. (z.0, f z.0 z.1)) zs) k ≡ option_map (f k) (value_under cmp zs k)
  value_made [] k = refl
  value_made (z ∷ zs) k =
      by_test (is_eq (cmp k z.0))
      (λ t. rw t (ap (λ j. Some (f j z.1)) (sym (exact k z.0 t))))
      (λ e. rw e (value_made zs k))

  pub made-table : (zs : List (K × V)) → Rising cmp zs → Tabulates cmp (map (λ z. (z.0, f z.0 z.1)) zs) (λ k. option_map (f k) (value_under cmp zs k))
  made-table zs h = record {
    rises = rising cmp (λ k. ⊤) (map (λ z. (z.0, f z.0 z.1)) zs) (up_made (λ k. ⊤) zs (up cmp zs h));
    values = value_made zs;
  }

pub keys-are : (j k : List (List ℕ)) → is_eq (key_cmp j k) ≡ true → j ≡ k
keys-are j k t = (pointwise_decides bytes_decides j k).0 (lists_ties (slice_cmp nat_cmp) texts_ties j k ∙ t)

keys_exact : (j k : List (List ℕ)) → key_cmp j k ≡ Equal → j ≡ k
keys_exact j k e = keys-are j k (ap is_eq e)

-- of a join of a table with changes
module _ (missing : List Bool) (old : List (List (List ℕ) × Under)) (changes : List (List (List ℕ) × UnderChange)) (zs : List (List (List ℕ) × EitherOrBoth Under UnderChange))
    (j : IsJoin key_cmp old changes zs) where
  kept_old : Tabulates key_cmp (kept left_place zs) (value_under key_cmp old)
  kept_old =
      retabled key_cmp (kept left_place zs) _ (value_under key_cmp old) (λ k. left_is (value_under key_cmp old k) (value_under key_cmp changes k))
      (kept_join key_cmp keys_total Under UnderChange Under (kept left_place zs) left_place old changes (zs, j, refl))

  kept_changes : Tabulates key_cmp (kept (completed_at missing) zs) (λ k. option_map (completed_by missing (value_under key_cmp old k)) (value_under key_cmp changes k))
  kept_changes =
      retabled key_cmp (kept (completed_at missing) zs) _ _ (λ k. completed_is missing (value_under key_cmp old k) (value_under key_cmp changes k))
      (kept_join key_cmp keys_total Under UnderChange UnderChange (kept (completed_at missing) zs) (completed_at missing) old changes (zs, j, refl))

  -- what it has of the table is the table
  pub old-again : (rows : List (List (List ℕ) × Under)) → rows ≡ kept left_place zs → Rising key_cmp old → rows ≡ old
  old-again rows is rises =
      is ∙ same_table key_cmp keys_total Under keys_exact (value_under key_cmp old) (kept left_place zs) old kept_old (record { rises = rises; values = λ k. refl })

  pub old-rises : (rows : List (List (List ℕ) × Under)) → rows ≡ kept left_place zs → Rising key_cmp rows
  old-rises rows is = subst (Rising key_cmp) (sym is) kept_old.rises

  -- and what is kept of the changes are these completed
  pub changes-again : (made : List (List (List ℕ) × UnderChange)) → made ≡ kept (completed_at missing) zs → Rising key_cmp changes → made ≡ completed missing old changes
  changes-again made is rises =
      is ∙ same_table key_cmp keys_total UnderChange keys_exact (λ k. option_map (completed_by missing (value_under key_cmp old k)) (value_under key_cmp changes k))
      (kept (completed_at missing) zs) (completed missing old changes) kept_changes
      (made-table key_cmp keys_total keys-are (λ k change. completed_by missing (value_under key_cmp old k) change) changes rises)

  pub changes-rise : (made : List (List (List ℕ) × UnderChange)) → made ≡ kept (completed_at missing) zs → Rising key_cmp made
  changes-rise made is = subst (Rising key_cmp) (sym is) kept_changes.rises

-- the cells that are left of two rows, each with whether its column is missing
abbrev Two : Type 0
Two = Zip (List (List ℕ)) (List (List ℕ))

abbrev Three : Type 0
Three = Zip (Iter Bool) Two

abbrev both_left : Two → List (List ℕ × List ℕ)
both_left s = zip (zip_first s) (zip_second s)

abbrev pub still : Three → List (Bool × (List ℕ × List ℕ))
still s = zip (iter_rest (zip_first s)) (both_left (zip_second s))

abbrev TwoSteps : Two → Option (Bor (List ℕ) × Bor (List ℕ)) → Two → Type 0
TwoSteps = zip_steps (YieldsFirstRef (λ cells. cells)) (YieldsFirstRef (λ cells. cells))

abbrev Steps : Three → Option (Bor Bool × (Bor (List ℕ) × Bor (List ℕ))) → Three → Type 0
Steps = zip_steps iter_steps TwoSteps

zip_none : {A B : Type 0} (a : List A) (b : List B) → (a ≡ []) ⊎ (b ≡ []) → zip a b ≡ []
zip_none [] b e = refl
zip_none (x ∷ xs) [] e = refl
zip_none (x ∷ xs) (y ∷ ys) e = ⊎_elim (λ g. absurd (cc)) (λ g. absurd (cc)) e

nil_of_len : {A : Type 0} (xs : List A) → length xs ≡ 0 → xs ≡ []
nil_of_len [] e = refl
nil_of_len (x ∷ xs) e = absurd (omega arith)

-- two cells are taken, or one of the rows has ended
pub cells-then : (s t : Three) (p : Bor Bool × (Bor (List ℕ) × Bor (List ℕ))) → Steps s (Some p) t
    → still s ≡ (p.0.now, (p.1.0.now, p.1.1.now)) ∷ still t
cells-then s t p h = rw (h.0, h.1.0, h.1.1) refl

both_none : (s t : Two) → TwoSteps s None t → both_left s ≡ []
both_none s t h = zip_none (zip_first s) (zip_second s) (⊎_elim (λ k. inl k.1.0) (λ k. inr k.1.0) h)

pub none-left : (s t : Three) (r : Option (Bor Bool × (Bor (List ℕ) × Bor (List ℕ)))) → r ≡ None → Steps s r t → still s ≡ []
none-left s t (Some p) e h = absurd (cc)
none-left s t None e h =
    ⊎_elim
    (λ g. zip_none (iter_rest (zip_first s)) (both_left (zip_second s)) (inl (nil_of_len _ g.1.0)))
    (λ g. zip_none (iter_rest (zip_first s)) (both_left (zip_second s)) (inr (both_none (zip_second s) g.0 g.1)))
    h

-- one row more, and what is kept of it
pub kept-more : {K V W : Type 0} (f : V → Option W) (before after : List (K × W)) (rows : List (K × V)) (row : K × V) → before ≡ kept f rows
    → after ≡ before ++ kept f (row ∷ []) → after ≡ kept f (rows ++ row ∷ [])
kept-more f before after rows row known is =
    is ∙ ap (λ l. l ++ kept f (row ∷ [])) known ∙ sym (filter_map-append (λ z. option_map (λ w. (z.0, w)) (f z.1)) rows (row ∷ []))
