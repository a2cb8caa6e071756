-- What a merge of cells has at each place.
use Rattle.std.proofs.Common.{◌≡◌, ◌∙◌, ℕ, zero, suc, ◌&&◌, ◌||◌, ◌==◌, ◌⊎◌, ⊎_elim, inl, inr, not, eqb-true, Bool, true, false, List, [], ◌∷◌, length, Option, Some, None, arith, refl, sym, ap, subst, true≢false}
use Rattle.std.specs.Prelude.{if◌then◌else◌, slice_get}
use Rattle.std.specs.Cmp.{IsEquivalence}
use Rattle.std.specs.Cmp.Lexicographic.{options_equiv, pointwise}
use Rattle.std.specs.Global.{Vec}
use Rattle.std.specs.Option.{option_eq}
use Rattle.std.specs.declared.cmp.Ordering.{Ordering}
use Rattle.std.proofs.Math.Bool.{or-true}
use Rattle.eob_lists.specs.Join.{value_under}
use Rattle.eob_joins.specs.declared.versions.Merged.{Merged}
use Rattle.eob_joins.specs.declared.versions.Merged.TheVariants.{Whole, Conflicts}
use Rattle.eob_joins.specs.declared.versions.Verdict.TheVariants.{Ours, Theirs}
use Rattle.eob_joins.specs.Versions.{is_conflict, merged_place, verdict, verdict_of}
use Rattle.eob_joins.proofs.TableLemmas.{by_test}
use Rattle.eob_joins.proofs.VersionLemmas.{merged_places}
use Rattle.eob_joins.specs.Cells.{AreMergedCells, CellsClashLaw, CellsKept, GivesByCell, KeepsCells, UnresolvedByCellLaw, can_by_cell, cell_clashes, cells_clash, same_length, vec_eq}
use Rattle.eob_joins.specs.Settled.{Became, BecameBy, IsMergeWith, is_unresolved}

ours_means : (s t u : Bool) → verdict_of s t u ≡ Ours → (s ≡ false) × (t ≡ true)
ours_means true true u e = absurd (cc)
ours_means true false u e = absurd (cc)
ours_means false true u e = (refl, refl)
ours_means false false true e = absurd (cc)
ours_means false false false e = absurd (cc)

theirs_means : (s t u : Bool) → verdict_of s t u ≡ Theirs → (s ≡ true) × (t ≡ false)
theirs_means true true u e = absurd (cc)
theirs_means true false u e = (refl, refl)
theirs_means false true u e = absurd (cc)
theirs_means false false true e = absurd (cc)
theirs_means false false false e = absurd (cc)

free_by : (s t u : Bool) → (s ≡ true) ⊎ ((t ≡ true) ⊎ (u ≡ true)) → is_conflict (verdict_of s t u) ≡ false
free_by true true u h = refl
free_by true false u h = refl
free_by false true u h = refl
free_by false false true h = refl
free_by false false false h = absurd (⊎_elim (λ e. true≢false (sym e)) (λ g. ⊎_elim (λ e. true≢false (sym e)) (λ e. true≢false (sym e)) g) h)

and_both : (s t : Bool) → (s && t) ≡ true → (s ≡ true) × (t ≡ true)
and_both true true e = (refl, refl)
and_both true false e = absurd (true≢false (sym e))
and_both false t e = absurd (true≢false (sym e))

and-false : (t : Bool) → (t && false) ≡ false
and-false true = refl
and-false false = refl

module _ {C : Type 0} (eq : C → C → Bool) where
  clash_to : (b p q : List C) → cells_clash eq b p q ≡ true → (i : ℕ) × (is_conflict (verdict eq (slice_get b i) (slice_get p i) (slice_get q i)) ≡ true)
  clash_to [] p q h = absurd (true≢false (sym h))
  clash_to (b ∷ bs) [] q h = absurd (true≢false (sym h))
  clash_to (b ∷ bs) (p ∷ ps) [] h = absurd (true≢false (sym h))
  clash_to (b ∷ bs) (p ∷ ps) (q ∷ qs) h =
      by_test (cell_clashes eq b p q)
      (λ t. (0, t))
      (λ f. let rest = clash_to bs ps qs (sym (ap (λ t. t || cells_clash eq bs ps qs) f) ∙ h) in (suc rest.0, rest.1))

  clash_from : (b p q : List C) → length b ≡ length p → length p ≡ length q → (i : ℕ) → is_conflict (verdict eq (slice_get b i) (slice_get p i) (slice_get q i)) ≡ true → cells_clash eq b p q ≡ true
  clash_from [] [] [] l m i e = absurd (true≢false (sym e))
  clash_from [] [] (q ∷ qs) l m i e = absurd (omega arith)
  clash_from [] (p ∷ ps) q l m i e = absurd (omega arith)
  clash_from (b ∷ bs) [] q l m i e = absurd (omega arith)
  clash_from (b ∷ bs) (p ∷ ps) [] l m i e = absurd (omega arith)
  clash_from (b ∷ bs) (p ∷ ps) (q ∷ qs) l m zero e = ap (λ t. t || cells_clash eq bs ps qs) e
  clash_from (b ∷ bs) (p ∷ ps) (q ∷ qs) l m (suc i) e = ap (λ t. cell_clashes eq b p q || t) (clash_from bs ps qs (omega arith) (omega arith) i e) ∙ or-true (cell_clashes eq b p q)

  pub clash_law : CellsClashLaw eq
  clash_law b p q l m = (clash_to b p q, λ h. clash_from b p q l m h.0 h.1)

  at_cell : (xs ys : List C) → pointwise eq xs ys ≡ true → (i : ℕ) → option_eq eq (slice_get xs i) (slice_get ys i) ≡ true
  at_cell [] [] h i = refl
  at_cell [] (y ∷ ys) h i = absurd (true≢false (sym h))
  at_cell (x ∷ xs) [] h i = absurd (true≢false (sym h))
  at_cell (x ∷ xs) (y ∷ ys) h zero = by_test (eq x y) (λ t. t) (λ f. absurd (true≢false (sym h ∙ ap (λ t. t && pointwise eq xs ys) f)))
  at_cell (x ∷ xs) (y ∷ ys) h (suc i) = by_test (eq x y) (λ t. at_cell xs ys (sym (ap (λ t. t && pointwise eq xs ys) t) ∙ h) i) (λ f. absurd (true≢false (sym h ∙ ap (λ t. t && pointwise eq xs ys) f)))

  module _ (o : IsEquivalence eq) where
    e : IsEquivalence (option_eq eq)
    e = options_equiv o

    free_if_ours : (m n l : Option C) → option_eq eq m n ≡ true → is_conflict (verdict eq m n l) ≡ false
    free_if_ours m n l h = free_by (option_eq eq m n) (option_eq eq m l) (option_eq eq n l) (inl h)

    free_if_theirs : (m n l : Option C) → option_eq eq m l ≡ true → is_conflict (verdict eq m n l) ≡ false
    free_if_theirs m n l h = free_by (option_eq eq m n) (option_eq eq m l) (option_eq eq n l) (inr (inl h))

    free_if_alike : (m n l : Option C) → option_eq eq n l ≡ true → is_conflict (verdict eq m n l) ≡ false
    free_if_alike m n l h = free_by (option_eq eq m n) (option_eq eq m l) (option_eq eq n l) (inr (inr h))

    theirs_is : (m n l : Option C) → option_eq eq m n ≡ true → option_eq eq l (merged_place eq m n l) ≡ true
    theirs_is m n l h = ap (λ t. option_eq eq l (if t then l else n)) h ∙ e.refl l

    -- ours, where theirs is the base or the same as ours
    ours_is : (m n l : Option C) → (option_eq eq m n ≡ true → option_eq eq n l ≡ true) → option_eq eq n (merged_place eq m n l) ≡ true
    ours_is m n l h = by_test (option_eq eq m n) (λ t. ap (λ t. option_eq eq n (if t then l else n)) t ∙ h t) (λ f. ap (λ t. option_eq eq n (if t then l else n)) f ∙ e.refl n)

  module _ (o : IsEquivalence eq) (b p q : List C) where
    as_theirs : pointwise eq b p ≡ true → CellsKept eq b p q q
    as_theirs h = record {
      free = λ i. free_if_ours o (slice_get b i) (slice_get p i) (slice_get q i) (at_cell b p h i);
      ours = λ i e. absurd (true≢false (sym (at_cell b p h i) ∙ (ours_means _ _ _ e).0));
      theirs = λ i e. refl;
      merged = λ i. theirs_is o (slice_get b i) (slice_get p i) (slice_get q i) (at_cell b p h i);
    }

    as_ours : pointwise eq b q ≡ true → CellsKept eq b p q p
    as_ours h = record {
      free = λ i. free_if_theirs o (slice_get b i) (slice_get p i) (slice_get q i) (at_cell b q h i);
      ours = λ i e. refl;
      theirs = λ i e. absurd (true≢false (sym (at_cell b q h i) ∙ (theirs_means _ _ _ e).1));
      merged = λ i. ours_is o (slice_get b i) (slice_get p i) (slice_get q i) (λ t. sym ((options_equiv o).congr (slice_get b i) (slice_get p i) (slice_get q i) t) ∙ at_cell b q h i);
    }

    as_both : pointwise eq p q ≡ true → CellsKept eq b p q p
    as_both h = record {
      free = λ i. free_if_alike o (slice_get b i) (slice_get p i) (slice_get q i) (at_cell p q h i);
      ours = λ i e. refl;
      theirs = λ i e.
          let means = theirs_means _ _ _ e in
          absurd (true≢false (sym (at_cell p q h i) ∙ sym ((options_equiv o).congr (slice_get b i) (slice_get p i) (slice_get q i) means.0) ∙ means.1));
      merged = λ i. ours_is o (slice_get b i) (slice_get p i) (slice_get q i) (λ t. at_cell p q h i);
    }

    as_merged : (w : List C) → ((i : ℕ) → is_conflict (verdict eq (slice_get b i) (slice_get p i) (slice_get q i)) ≡ false) → AreMergedCells eq b p q w → CellsKept eq b p q w
    as_merged w n h = record {
      free = n;
      ours = λ i e. h.cells i ∙ (merged_places eq).ours (slice_get b i) (slice_get p i) (slice_get q i) e;
      theirs = λ i e. h.cells i ∙ (merged_places eq).theirs (slice_get b i) (slice_get p i) (slice_get q i) e;
      merged = λ i. ap (λ m. option_eq eq m (merged_place eq (slice_get b i) (slice_get p i) (slice_get q i))) (h.cells i) ∙ (options_equiv o).refl (merged_place eq (slice_get b i) (slice_get p i) (slice_get q i));
    }

  module _ (o : IsEquivalence eq) (b p q : Vec C) where
    -- no cell is in conflict where the rule settles
    settled_free : can_by_cell eq (Some b) (Some p) (Some q) ≡ true → (i : ℕ) → is_conflict (verdict eq (slice_get b.items i) (slice_get p.items i) (slice_get q.items i)) ≡ false
    settled_free h i =
        by_test (is_conflict (verdict eq (slice_get b.items i) (slice_get p.items i) (slice_get q.items i)))
        (λ t.
        let l = and_both (length p.items == length b.items) (length q.items == length b.items) (and_both (same_length b.items p.items q.items) (not (cells_clash eq b.items p.items q.items)) h).0 in
        let lp = eqb-true (length p.items) (length b.items) l.0 in
        let lq = eqb-true (length q.items) (length b.items) l.1 in
        let clash = clash_from b.items p.items q.items (sym lp) (lp ∙ sym lq) i t in
        absurd (true≢false (sym (and_both (same_length b.items p.items q.items) (not (cells_clash eq b.items p.items q.items)) h).1 ∙ ap not clash)))
        (λ f. f)

    -- what became of a row that is not unresolved
    keeps_by : (s t u c : Bool) (m : Option (Vec C)) → pointwise eq b.items p.items ≡ s → pointwise eq b.items q.items ≡ t → pointwise eq p.items q.items ≡ u
        → can_by_cell eq (Some b) (Some p) (Some q) ≡ c → (is_conflict (verdict_of s t u) && not c) ≡ false
        → BecameBy (is_conflict (verdict_of s t u)) (GivesByCell eq (Some b) (Some p) (Some q)) (if s then Some q else Some p) m
        → (w : Vec C) × (m ≡ Some w) × CellsKept eq b.items p.items q.items w.items
    keeps_by true true u c m e f g d n h = (q, h, as_theirs o b.items p.items q.items e)
    keeps_by true false u c m e f g d n h = (q, h, as_theirs o b.items p.items q.items e)
    keeps_by false true u c m e f g d n h = (p, h, as_ours o b.items p.items q.items f)
    keeps_by false false true c m e f g d n h = (p, h, as_both o b.items p.items q.items g)
    keeps_by false false false c None e f g d n h = absurd h
    keeps_by false false false false (Some w) e f g d n h = absurd (true≢false n)
    keeps_by false false false true (Some w) e f g d n h = (w, refl, as_merged o b.items p.items q.items w.items (settled_free d) h)

    keeps : (m : Option (Vec C)) → is_unresolved (vec_eq eq) (can_by_cell eq) (Some b) (Some p) (Some q) ≡ false → Became (vec_eq eq) (GivesByCell eq) (Some b) (Some p) (Some q) m
        → (w : Vec C) × (m ≡ Some w) × CellsKept eq b.items p.items q.items w.items
    keeps m n h =
        keeps_by (pointwise eq b.items p.items) (pointwise eq b.items q.items) (pointwise eq p.items q.items) (can_by_cell eq (Some b) (Some p) (Some q)) m refl refl refl refl n h

  pub keeps_law : IsEquivalence eq → {K M : Type 0} (cmp : K → K → Ordering) (base ours theirs : List (K × Vec C)) (m : Merged K (Vec C) M)
      → IsMergeWith cmp (vec_eq eq) (can_by_cell eq) (GivesByCell eq) base ours theirs m → KeepsCells cmp eq base ours theirs m
  keeps_law o cmp base ours theirs (Whole rs) h = λ k b p q at_b at_p at_q.
      let P : Option (Vec C) → Option (Vec C) → Option (Vec C) → Type 0 = λ l m n. (is_unresolved (vec_eq eq) (can_by_cell eq) l m n ≡ false) × Became (vec_eq eq) (GivesByCell eq) l m n (value_under cmp rs.items k) in
      let said : P (value_under cmp base k) (value_under cmp ours k) (value_under cmp theirs k) = (h.2 k, h.1 k) in
      let at_base = subst (λ l. P l (value_under cmp ours k) (value_under cmp theirs k)) at_b said in
      let at_ours = subst (λ l. P (Some b) l (value_under cmp theirs k)) at_p at_base in
      let at_all = subst (λ l. P (Some b) (Some p) l) at_q at_ours in
      keeps o b p q (value_under cmp rs.items k) at_all.0 at_all.1
  keeps_law o cmp base ours theirs (Conflicts cs) h = tt

  -- a cell in conflict makes its rows differ
  clash_differs : (b p q : Vec C) (i : ℕ) → is_conflict (verdict eq (slice_get b.items i) (slice_get p.items i) (slice_get q.items i)) ≡ true
      → is_conflict (verdict_of (vec_eq eq b p) (vec_eq eq b q) (vec_eq eq p q)) ≡ true
  clash_differs b p q i h =
      by_test (vec_eq eq b p)
      (λ s. absurd (true≢false (sym h ∙ free_by _ _ _ (inl (at_cell b.items p.items s i)))))
      (λ s. by_test (vec_eq eq b q)
      (λ t. absurd (true≢false (sym h ∙ free_by _ _ _ (inr (inl (at_cell b.items q.items t i))))))
      (λ t. by_test (vec_eq eq p q)
      (λ u. absurd (true≢false (sym h ∙ free_by _ _ _ (inr (inr (at_cell p.items q.items u i))))))
      (λ u. rw (s, t, u) refl)))

  unresolved_cells : (b p q : Vec C) → same_length b.items p.items q.items ≡ true → is_unresolved (vec_eq eq) (can_by_cell eq) (Some b) (Some p) (Some q) ≡ cells_clash eq b.items p.items q.items
  unresolved_cells b p q l =
      by_test (cells_clash eq b.items p.items q.items)
      (λ t.
      let at = clash_to b.items p.items q.items t in
      let d = clash_differs b p q at.0 at.1 in
      rw (l, t, d) refl)
      (λ f. rw (l, f) (and-false _))

  not_conflict : (t : Bool) → (is_conflict (verdict_of t false false) && true) ≡ not t
  not_conflict true = refl
  not_conflict false = refl

  not_conflict_2 : (t : Bool) → (is_conflict (verdict_of false t false) && true) ≡ not t
  not_conflict_2 true = refl
  not_conflict_2 false = refl

  not_conflict_3 : (t : Bool) → (is_conflict (verdict_of false false t) && true) ≡ not t
  not_conflict_3 true = refl
  not_conflict_3 false = refl

  one : (m : Option (Vec C)) → (is_unresolved (vec_eq eq) (can_by_cell eq) None m None ≡ false) × (is_unresolved (vec_eq eq) (can_by_cell eq) None None m ≡ false)
  one None = (refl, refl)
  one (Some w) = (refl, refl)

  gone : (m : Option (Vec C)) → is_unresolved (vec_eq eq) (can_by_cell eq) m None None ≡ false
  gone None = refl
  gone (Some w) = refl

  pub unresolved_law : UnresolvedByCellLaw eq
  unresolved_law = record {
    cells = unresolved_cells;
    theirs_removed = λ b p. not_conflict (vec_eq eq b p);
    ours_removed = λ b q. not_conflict_2 (vec_eq eq b q);
    both_added = λ p q. not_conflict_3 (vec_eq eq p q);
    one_added = one;
    both_removed = gone;
  }
