-- The slices of an ordered table, what a call takes of them, and what a run of calls shows.
use Rattle.std.proofs.Common.{◌≡◌, ◌∙◌, ℕ, ◌+◌, ◌≤◌, zero, suc, Bool, List, [], ◌∷◌, ◌++◌, length, take, drop, map, filter, All, Contains, Option, Some, append-nil, arith, refl, sym, ap, ap₂, subst}
use Rattle.std.specs.Prelude.{⊤, IfSome, flat_map}
use Rattle.std.proofs.iter.runs.Made.{each, took}
use Rattle.std.proofs.lemmas.List.{length-append, length-map}
use Rattle.std.specs.Borrow.{Bor}
use Rattle.std.specs.Cmp.{IsTotalOrder}
use Rattle.std.specs.Iterator.{Yields, YieldsFirstBy}
use Rattle.std.specs.Iterator.Runs.{Run}
use Rattle.std.specs.List.{prefix_len, slice_get}
use Rattle.std.specs.Map.{keys_of, values_of}
use Rattle.std.specs.Map.Iter.{deref_pair}
use Rattle.std.specs.Ordering.{is_eq}
use Rattle.std.specs.declared.cmp.Ordering.{Ordering}
use Rattle.std.specs.declared.cmp.Ordering.TheVariants.{Less}
use Rattle.eob_lists.specs.Join.{value_under}
use Rattle.eob_lists.proofs.JoinLemmas.{own_head}
use Rattle.eob_lists.proofs.MergeLemmas.{Up, rising, up}
use Rattle.eob_joins.specs.Groups.{Ordered, add_pair, key_runs, run_rest, run_values, some_items}
use Rattle.eob_joins.specs.KeySlices.{AreKeySlices, ShowsKeySlices, slice_under, slices_left, slices_of}
use Rattle.eob_joins.specs.declared.group_refs.GroupRefs.{GroupRefs}
use Rattle.eob_joins.proofs.GroupLemmas.{AreGroups-read, run_on}
use Rattle.eob_joins.proofs.TableLemmas.{by_test}

module _ {K : Type 0} (cmp : K → K → Ordering) (o : IsTotalOrder cmp) where
  after_first : {V : Type 0} (g : K × V) (gs : List (K × V)) (k : K) → cmp g.0 k ≡ Less → value_under cmp (g ∷ gs) k ≡ value_under cmp gs k
  after_first g gs k l = rw (o.antisymm k g.0, l) refl

  -- what a list whose keys strictly increase has under each key is at the key of a pair that pair's
  own_slices : {V : Type 0} (f : K → Option V) (gs : List (K × V)) (P : K → Type 0) → ((j k : K) → P j → cmp j k ≡ Less → P k)
      → ((k : K) → P k → f k ≡ value_under cmp gs k) → Up cmp P gs → (n : ℕ) → IfSome (slice_get gs n) (λ g. f g.0 ≡ Some g.1)
  own_slices f [] P on same_on h n = tt
  own_slices f (g ∷ gs) P on same_on h zero = same_on g.0 h.0 ∙ own_head cmp o g gs
  own_slices f (g ∷ gs) P on same_on h (suc n) =
      own_slices f gs (λ k. cmp g.0 k ≡ Less) (λ j k. o.trans g.0 j k) (λ k l. same_on k (on g.0 k h.0 l) ∙ after_first g gs k l) h.1 n

  up_before : {V : Type 0} (P : K → Type 0) (xs ys : List (K × V)) → Up cmp P (xs ++ ys) → Up cmp P xs
  up_before P [] ys h = tt
  up_before P (x ∷ xs) ys h = (h.0, up_before (λ k. cmp x.0 k ≡ Less) xs ys h.1)

module _ {K V : Type 0} (cmp : K → K → Ordering) where
  -- each pair under its key
  abbrev keyed : List (K × V) → List (K × (K × V))
  keyed xs = map (λ x. (x.0, x)) xs

  abbrev same : K → K × V → Bool
  same k x = is_eq (cmp k x.0)

  cut_values : (k : K) (xs : List (K × V)) → run_values cmp k (keyed xs) ≡ take (prefix_len (same k) xs) xs
  cut_values k [] = refl
  cut_values k (x ∷ xs) =
      let e : 1 + prefix_len (same k) xs ≡ suc (prefix_len (same k) xs) = omega arith in
      by_test (same k x) (λ t. rw (t, e) (ap (λ ys. x ∷ ys) (cut_values k xs))) (λ f. rw f refl)

  cut_rest : (k : K) (xs : List (K × V)) → run_rest cmp k (keyed xs) ≡ keyed (drop (prefix_len (same k) xs) xs)
  cut_rest k [] = refl
  cut_rest k (x ∷ xs) =
      let e : 1 + prefix_len (same k) xs ≡ suc (prefix_len (same k) xs) = omega arith in
      by_test (same k x) (λ t. rw (t, e) (cut_rest k xs)) (λ f. rw f refl)

  -- what a cut after the first run takes of the slices, and what it leaves of them
  pub cut_slice : IsTotalOrder cmp → (x : K × V) (xs ys part rest : List (K × V)) (m n : ℕ) → ys ≡ x ∷ xs → m ≡ prefix_len (same x.0) xs → rest ≡ drop m xs
      → n ≡ suc m → part ≡ take n ys → slices_of cmp ys ≡ (x.0, part) ∷ slices_of cmp rest
  cut_slice o x xs ys part rest m n whole e r f p =
      let run = run_on cmp o (x.0, x) (keyed xs) in
      rw (p, r, whole, f, e) (run ∙ ap₂ (λ vs gs. (x.0, x ∷ vs) ∷ key_runs cmp gs) (cut_values x.0 xs) (cut_rest x.0 xs))

  one_pair : (x : K × V) (gs : List (K × List (K × V))) → length (add_pair cmp (x.0, x) gs) ≤ suc (length gs)
  one_pair x [] = omega arith
  one_pair x (g ∷ gs) = by_test (is_eq (cmp x.0 g.0)) (λ t. rw t (omega arith)) (λ f. rw f (omega arith))

  some_pair : (x : K × V) (gs : List (K × List (K × V))) → 1 ≤ length (add_pair cmp (x.0, x) gs)
  some_pair x [] = omega arith
  some_pair x (g ∷ gs) = by_test (is_eq (cmp x.0 g.0)) (λ t. rw t (omega arith)) (λ f. rw f (omega arith))

  -- there are no more slices than pairs, and one where there is a pair
  pub slices_most : (xs : List (K × V)) → length (slices_of cmp xs) ≤ length xs
  slices_most [] = omega arith
  slices_most (x ∷ xs) = omega (arith, one_pair x (slices_of cmp xs), slices_most xs)

  pub slices_least : (xs : List (K × V)) (n : ℕ) → n ≤ length xs → n ≤ 1 → n ≤ length (slices_of cmp xs)
  slices_least [] n l m = l
  slices_least (x ∷ xs) n l m = omega (arith, m, some_pair x (slices_of cmp xs))

  whole_pair : (x : K × V) (gs : List (K × List (K × V))) → flat_map (λ (g : K × List (K × V)). g.1) (add_pair cmp (x.0, x) gs) ≡ x ∷ flat_map (λ (g : K × List (K × V)). g.1) gs
  whole_pair x [] = refl
  whole_pair x (g ∷ gs) = by_test (is_eq (cmp x.0 g.0)) (λ t. rw t refl) (λ f. rw f refl)

  whole_slices : (xs : List (K × V)) → flat_map (λ (g : K × List (K × V)). g.1) (slices_of cmp xs) ≡ xs
  whole_slices [] = refl
  whole_slices (x ∷ xs) = whole_pair x (slices_of cmp xs) ∙ ap (λ ys. x ∷ ys) (whole_slices xs)

  keyed_under : (k : K) (xs : List (K × V)) → values_of (filter (λ y. is_eq (cmp k y.0)) (keyed xs)) ≡ filter (same k) xs
  keyed_under k [] = refl
  keyed_under k (x ∷ xs) = by_test (same k x) (λ t. rw t (ap (λ ys. x ∷ ys) (keyed_under k xs))) (λ f. rw f (keyed_under k xs))

  keyed_keys : (xs : List (K × V)) → keys_of (keyed xs) ≡ keys_of xs
  keyed_keys [] = refl
  keyed_keys (x ∷ xs) = ap (λ ks. x.0 ∷ ks) (keyed_keys xs)

  module _ (o : IsTotalOrder cmp) where
    pub AreKeySlices-slices : (xs : List (K × V)) → Ordered cmp xs → AreKeySlices cmp xs (slices_of cmp xs)
    AreKeySlices-slices xs h =
        let all = AreGroups-read cmp o (λ x. x) xs h in
        record {
          rises = all.rises;
          values = λ k. all.values k ∙ ap some_items (keyed_under k xs);
          keys = subst (λ ks. All (λ (g : K × List (K × V)). Contains ks g.0) (slices_of cmp xs)) (keyed_keys xs) all.keys;
          whole = whole_slices xs;
        }

    -- what a slice shows, read off the list of what is shown
    shown_at : (P : K × List (K × V) → Type 0) (gs : List (Bor K × Bor (List (K × V)))) (rest : List (K × List (K × V))) → ((n : ℕ) → IfSome (slice_get (map deref_pair gs ++ rest) n) P)
        → (n : ℕ) → IfSome (slice_get gs n) (λ g. P (deref_pair g))
    shown_at P [] rest h n = tt
    shown_at P (g ∷ gs) rest h zero = h 0
    shown_at P (g ∷ gs) rest h (suc n) = shown_at P gs rest (λ m. h (suc m)) n

    abbrev steps : GroupRefs K V → Option (Bor K × Bor (List (K × V))) → GroupRefs K V → Type 0
    steps = YieldsFirstBy deref_pair (slices_left cmp)

    calls_take : (gs : List (Bor K × Bor (List (K × V)))) (s u : GroupRefs K V) → Yields steps s gs u → slices_left cmp s ≡ map deref_pair gs ++ slices_left cmp u
    calls_take [] s u e = ap (slices_left cmp) e
    calls_take (g ∷ gs) s u e = e.1 ∙ ap (λ k. deref_pair g ∷ k) (calls_take gs e.0 u e.2)

    -- every run of calls shows slices of the table
    pub shows_slices : (xs : List (K × V)) → Ordered cmp xs → (s : GroupRefs K V) → slices_left cmp s ≡ slices_of cmp xs → (p : Run steps) → p.from ≡ s → ShowsKeySlices cmp xs p
    shows_slices xs h s e p from =
        let calls = took p in
        let rest = slices_left cmp calls.0 in
        let split : slices_of cmp xs ≡ map deref_pair p.items ++ rest = sym (ap (slices_left cmp) from ∙ e) ∙ calls_take p.items p.from calls.0 calls.1 in
        let all : AreKeySlices cmp xs (map deref_pair p.items ++ rest) = subst (AreKeySlices cmp xs) split (AreKeySlices-slices xs h) in
        let own = own_slices cmp o (slice_under cmp xs) (map deref_pair p.items ++ rest) (λ k. ⊤) (λ j k t l. tt) (λ k t. sym (all.values k)) (up cmp _ all.rises) in record {
          bound = omega (arith, slices_most xs, ap length split, length-append (map deref_pair p.items) rest, length-map p.items deref_pair, p.long);
          slices = λ b. sym (split ∙ ap (λ r. map deref_pair p.items ++ r) (calls.2 b).1.0 ∙ append-nil (map deref_pair p.items));
          rises = rising cmp (λ k. ⊤) (map deref_pair p.items) (up_before cmp o (λ k. ⊤) (map deref_pair p.items) rest (up cmp _ all.rises));
          places = each p (λ g. slice_under cmp xs g.0.now ≡ Some g.1.now) (shown_at (λ g. slice_under cmp xs g.0 ≡ Some g.1) p.items rest own);
          begins = (rest, sym split);
        }
