-- Sums that fit, and totals of the numbers under a key, one pair after the other.
use Rattle.std.proofs.Common.{◌≡◌, ◌∙◌, ℕ, ◌+◌, ◌<◌, ◌≤◌, true, false, cond, List, [], ◌∷◌, ◌++◌, length, Option, Some, None, option_map, filter, arith, refl, sym, ap, ap₂}
use Rattle.std.specs.Prelude.{◌^◌, nat_lt, sum, IfSome}
use Rattle.std.specs.Cmp.{IsTotalOrder}
use Rattle.std.specs.Map.{values_of}
use Rattle.std.specs.Option.{option_and_then}
use Rattle.std.specs.Ordering.{is_eq, ordering_reverse}
use Rattle.std.specs.declared.cmp.Ordering.{Ordering}
use Rattle.std.specs.declared.cmp.Ordering.TheVariants.{Less, Equal, Greater}
use Rattle.std.proofs.lemmas.List.Sums.{sum_by-cons}
use Rattle.eob_joins.specs.Groups.{group_under, some_items}
use Rattle.eob_joins.proofs.TableLemmas.{by_test}
use Rattle.eob_lists.proofs.MergeLemmas.{is_Equal}
use Rattle.eob_sums.specs.declared.by_key.Total.{Total}
use Rattle.eob_sums.specs.Sums.{fitting, one_more, total_of, total_under, with_more}

not_below : (a : ℕ) → nat_lt a (2 ^ 64) ≡ false → 2 ^ 64 ≤ a
not_below a h = grind arith

fits_not : (a : ℕ) → 2 ^ 64 ≤ a → fitting a ≡ None
fits_not a h = let f : nat_lt a (2 ^ 64) ≡ false = grind arith in rw f refl

pub fits : (a : ℕ) → a < 2 ^ 64 → fitting a ≡ Some a
fits a h = let t : nat_lt a (2 ^ 64) ≡ true = grind arith in rw t refl

-- a sum fits where the sum before it does and the number more does
pub fitting-add : (a n : ℕ) → option_and_then (λ s. fitting (s + n)) (fitting a) ≡ fitting (a + n)
fitting-add a n =
    by_test (nat_lt a (2 ^ 64))
    (λ t. rw t refl)
    (λ f. rw f (sym (fits_not (a + n) (omega (arith, not_below a f)))))

sum-one : (n : ℕ) → sum (n ∷ []) ≡ n
sum-one n = omega (arith, sum_by-cons (λ k. k) n [])

sum-push : (ns : List ℕ) (n : ℕ) → sum (ns ++ n ∷ []) ≡ sum ns + n
sum-push [] n = omega (arith, sum_by-cons (λ k. k) n [])
sum-push (m ∷ ms) n = omega (arith, sum-push ms n, sum_by-cons (λ k. k) m (ms ++ n ∷ []), sum_by-cons (λ k. k) m ms)

length-push : {V : Type 0} (vs : List V) (v : V) → length (vs ++ v ∷ []) ≡ length vs + 1
length-push [] v = refl
length-push (w ∷ ws) v = let e = length-push ws v in omega (arith, e)

abbrev total : ℕ → Option ℕ → Total
total n s = record { count = n; sum = s }

same_total : (m n : ℕ) (p q : Option ℕ) → m ≡ n → p ≡ q → Some (total m p) ≡ Some (total n q)
same_total m n p q e f = ap₂ (λ c s. Some (total c s)) e f

-- the total of the numbers of a key, with one more
total-push : (ns : List ℕ) (n : ℕ) → option_map total_of (some_items (ns ++ n ∷ [])) ≡ Some (with_more (option_map total_of (some_items ns)) n)
total-push [] n = ap (λ s. Some (total 1 s)) (ap fitting (sum-one n))
total-push (m ∷ ms) n = same_total _ _ _ _ (length-push (m ∷ ms) n) (ap fitting (sum-push (m ∷ ms) n) ∙ sym (fitting-add (sum (m ∷ ms)) n))

count-push : {V : Type 0} (vs : List V) (v : V) → option_map length (some_items (vs ++ v ∷ [])) ≡ Some (one_more (option_map length (some_items vs)))
count-push [] v = refl
count-push (w ∷ ws) v = ap Some (length-push (w ∷ ws) v)

module _ {K : Type 0} (cmp : K → K → Ordering) where
  -- the values that a list has under a key
  abbrev pub group : {V : Type 0} → List (K × V) → K → List V
  group xs k = values_of (filter (λ x. is_eq (cmp k x.0)) xs)

  module _ {V : Type 0} where
    group-hit : (xs : List (K × V)) (x : K × V) (k : K) → is_eq (cmp k x.0) ≡ true → group (xs ++ x ∷ []) k ≡ group xs k ++ x.1 ∷ []
    group-hit [] x k h = rw h refl
    group-hit (y ∷ ys) x k h =
        by_test (is_eq (cmp k y.0))
        (λ t. rw t (ap (λ l. y.1 ∷ l) (group-hit ys x k h)))
        (λ f. rw f (group-hit ys x k h))

    group-miss : (xs : List (K × V)) (x : K × V) (k : K) → is_eq (cmp k x.0) ≡ false → group (xs ++ x ∷ []) k ≡ group xs k
    group-miss [] x k h = rw h refl
    group-miss (y ∷ ys) x k h =
        by_test (is_eq (cmp k y.0))
        (λ t. rw t (ap (λ l. y.1 ∷ l) (group-miss ys x k h)))
        (λ f. rw f (group-miss ys x k h))

    group-length : (xs : List (K × V)) (k : K) → length (group xs k) ≤ length xs
    group-length [] k = omega arith
    group-length (x ∷ xs) k =
        let rest : length (group xs k) ≤ length xs = group-length xs k in
        by_test (is_eq (cmp k x.0))
        (λ t. rw t (omega (arith, rest)))
        (λ f. rw f (omega (arith, rest)))

    module _ (o : IsTotalOrder cmp) where
      group-alike : (xs : List (K × V)) (j k : K) → is_eq (cmp j k) ≡ true → group xs j ≡ group xs k
      group-alike [] j k h = refl
      group-alike (x ∷ xs) j k h =
          let same : cmp j x.0 ≡ cmp k x.0 = o.congr j k x.0 (is_Equal (cmp j k) h) in
          let rest : group xs j ≡ group xs k = group-alike xs j k h in
          rw same (by_test (is_eq (cmp k x.0)) (λ t. rw t (ap (λ l. x.1 ∷ l) rest)) (λ f. rw f rest))

  reversed : (r : Ordering) → is_eq (ordering_reverse r) ≡ is_eq r
  reversed Less = refl
  reversed Equal = refl
  reversed Greater = refl

  module _ (o : IsTotalOrder cmp) where
    flipped : (j k : K) → is_eq (cmp k j) ≡ is_eq (cmp j k)
    flipped j k = ap is_eq (o.antisymm k j) ∙ reversed (cmp j k)

    -- a function of the values under a key, where a pair more is counted in by g
    module _ {V W : Type 0} (f : List V → Option W) (g : Option W → V → W) (push : (vs : List V) (v : V) → f (vs ++ v ∷ []) ≡ Some (g (f vs) v)) where
      counted-push : (xs : List (K × V)) (x : K × V) (k : K) → f (group (xs ++ x ∷ []) k) ≡ cond (is_eq (cmp x.0 k)) (Some (g (f (group xs x.0)) x.1)) (f (group xs k))
      counted-push xs x k =
          by_test (is_eq (cmp x.0 k))
          (λ t. rw t (ap f (group-hit xs x k (flipped x.0 k ∙ t)) ∙ push (group xs k) x.1 ∙ ap (λ l. Some (g (f l) x.1)) (sym (group-alike o xs x.0 k t))))
          (λ e. rw e (ap f (group-miss xs x k (flipped x.0 k ∙ e))))

    -- a pair more, where the look-up of a map took it in
    pub total_under-push : (xs : List (K × ℕ)) (x : K × ℕ) (found old : K → Option Total) → ((k : K) → old k ≡ total_under cmp xs k)
        → ((k : K) → found k ≡ cond (is_eq (cmp x.0 k)) (Some (with_more (old x.0) x.1)) (old k)) → (k : K) → found k ≡ total_under cmp (xs ++ x ∷ []) k
    total_under-push xs x found old h step k =
        step k ∙ ap₂ (λ m n. cond (is_eq (cmp x.0 k)) (Some (with_more m x.1)) n) (h x.0) (h k)
        ∙ sym (counted-push (λ ns. option_map total_of (some_items ns)) with_more total-push xs x k)

    pub count_under-push : {V : Type 0} (xs : List (K × V)) (x : K × V) (found old : K → Option ℕ) → ((k : K) → old k ≡ option_map length (group_under cmp xs k))
        → ((k : K) → found k ≡ cond (is_eq (cmp x.0 k)) (Some (one_more (old x.0))) (old k)) → (k : K) → found k ≡ option_map length (group_under cmp (xs ++ x ∷ []) k)
    count_under-push xs x found old h step k =
        step k ∙ ap₂ (λ m n. cond (is_eq (cmp x.0 k)) (Some (one_more m)) n) (h x.0) (h k)
        ∙ sym (counted-push (λ vs. option_map length (some_items vs)) (λ m v. one_more m) count-push xs x k)

  -- no key has more values than the list has pairs, so that one more fits
  some-fits : {V : Type 0} (vs : List V) → length vs + 1 < 2 ^ 64 → IfSome (option_map length (some_items vs)) (λ n. n + 1 < 2 ^ 64)
  some-fits [] h = tt
  some-fits (v ∷ vs) h = h

  total-fits : (ns : List ℕ) → length ns + 1 < 2 ^ 64 → IfSome (option_map total_of (some_items ns)) (λ t. t.count + 1 < 2 ^ 64)
  total-fits [] h = tt
  total-fits (n ∷ ns) h = h

  pub count_under-fits : {V : Type 0} (xs : List (K × V)) (k : K) (found : Option ℕ) → found ≡ option_map length (group_under cmp xs k) → length xs + 1 < 2 ^ 64 → IfSome found (λ n. n + 1 < 2 ^ 64)
  count_under-fits xs k found e h = rw e (some-fits (group xs k) (omega (arith, group-length xs k, h)))

  pub total_under-fits : (xs : List (K × ℕ)) (k : K) (found : Option Total) → found ≡ total_under cmp xs k → length xs + 1 < 2 ^ 64 → IfSome found (λ t. t.count + 1 < 2 ^ 64)
  total_under-fits xs k found e h = rw e (total-fits (group xs k) (omega (arith, group-length xs k, h)))
