-- The first difference of two lists by places, from that of the runs that it was found by.
use Rattle.std.proofs.Common.{◌≡◌, ◌∙◌, ℕ, zero, suc, ◌≤◌, Bool, true, List, [], ◌∷◌, length, slice_get, Option, Some, None, arith, refl, sym, subst}
use Rattle.std.proofs.iter.runs.Made.{at-is}
use Rattle.std.specs.Iterator.Runs.{Run}
use Rattle.std.specs.Prelude.{IfSome, MatchOption}
use Rattle.eob_both.specs.declared.either_or_both.EitherOrBoth.{EitherOrBoth}
use Rattle.eob_both.specs.Places.{from_places}
use Rattle.eob_lists.specs.Difference.{AgreeAt, IsFirstDifference, agrees}
use Rattle.eob_known_lists.specs.Listed.{ReadsPlaces}

-- a list with no item at a place has none at a later one
none_later : {A : Type 0} (xs : List A) (k n : ℕ) → k ≤ n → slice_get xs k ≡ None → slice_get xs n ≡ None
none_later [] k n h e = refl
none_later (x ∷ xs) zero n h e = absurd (cc)
none_later (x ∷ xs) (suc k) zero h e = absurd (omega (arith, h))
none_later (x ∷ xs) (suc k) (suc n) h e = none_later xs k n (omega (arith, h)) e

no_longer : {A : Type 0} (xs : List A) (k : ℕ) → slice_get xs k ≡ None → length xs ≤ k
no_longer [] k e = omega arith
no_longer (x ∷ xs) zero e = absurd (cc)
no_longer (x ∷ xs) (suc k) e = let h = no_longer xs k e in omega (arith, h)

module _ {S A : Type 0} {steps : S → Option A → S → Type 0} (p : Run steps) (xs : List A) (reads : ReadsPlaces p xs) where
  -- where the run went, or ended, it gave what stands there
  at_place : (k : ℕ) → (p.at k ≡ None → p.whole ≡ true) → slice_get xs k ≡ p.at k
  at_place k whole = is_at (p.at k) refl
    where
      is_at : (o : Option A) → p.at k ≡ o → slice_get xs k ≡ o
      is_at None e =
          let short = no_longer p.items k (sym (at-is p k) ∙ e) in
          reads.1 (whole e) k (omega (arith, short, p.long))
      is_at (Some x) e = subst (λ o. IfSome o (λ y. slice_get xs k ≡ Some y)) e (reads.0 k)

  -- the same at each place up to one
  up_to : (n : ℕ) → (p.at n ≡ None → p.whole ≡ true) → (k : ℕ) → k ≤ n → slice_get xs k ≡ p.at k
  up_to n whole k h = at_place k (λ e. whole (at-is p n ∙ none_later p.items k n h (sym (at-is p k) ∙ e)))

module _ {A : Type 0} (eq : A → A → Bool) where
  same_agree : (f g : ℕ → Option A) (m o : Option A) (k : ℕ) → m ≡ f k → o ≡ g k → AgreeAt eq f g k → IfSome (from_places m o) (λ v. agrees eq v ≡ true)
  same_agree f g m o k d e h = rw (d, e) h

  pub by_places : {S T : Type 0} {firsts : S → Option A → S → Type 0} {seconds : T → Option A → T → Type 0} (p : Run firsts) (q : Run seconds) (xs ys : List A) → ReadsPlaces p xs → ReadsPlaces q ys
      → (r : Option (ℕ × EitherOrBoth A A)) → IsFirstDifference eq p.at q.at r
      → MatchOption r ((p.whole ≡ true) × (q.whole ≡ true)) (λ d. (p.at d.0 ≡ None → p.whole ≡ true) × (q.at d.0 ≡ None → q.whole ≡ true))
      → IsFirstDifference eq (slice_get xs) (slice_get ys) r
  by_places p q xs ys f g None h e = λ k. same_agree p.at q.at (slice_get xs k) (slice_get ys k) k (at_place p xs f k (λ n. e.0)) (at_place q ys g k (λ n. e.1)) (h k)
  by_places p q xs ys f g (Some d) h e =
      let left = up_to p xs f d.0 e.0 in
      let right = up_to q ys g d.0 e.1 in (
        rw (left d.0 (omega arith), right d.0 (omega arith)) h.0,
        h.1,
        λ k lt. same_agree p.at q.at (slice_get xs k) (slice_get ys k) k (left k (omega (arith, lt))) (right k (omega (arith, lt))) (h.2 k lt),
      )
