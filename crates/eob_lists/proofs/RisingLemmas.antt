-- When a list of keyed pairs strictly increases, and joins of lists of references.
use Rattle.std.proofs.Common.{◌≡◌, ◌∙◌, ◌⊎◌, List, [], ◌∷◌, Bool, true, false, cond, map, Contains, Option, Some, None, option_map, inl, inr, refl, sym, ap, ap₂, subst}
use Rattle.std.specs.Prelude.{⊤}
use Rattle.std.specs.Borrow.{Bor}
use Rattle.std.specs.Cmp.{IsTotalOrder}
use Rattle.std.specs.List.{AllByRecursion}
use Rattle.std.specs.List.Sorted.{IsStrictlySortedBy}
use Rattle.std.specs.Map.{keys_of}
use Rattle.std.specs.Map.Iter.{deref_pair}
use Rattle.std.specs.Ordering.{eq_by_cmp, is_eq}
use Rattle.std.specs.declared.cmp.Ordering.{Ordering}
use Rattle.std.specs.declared.cmp.Ordering.TheVariants.{Less}
use Rattle.std.proofs.Math.ListN.{get_or-map}
use Rattle.std.proofs.lemmas.List.{length-map}
use Rattle.std.proofs.lemmas.Cmp.{eq_by_cmp_equiv}
use Rattle.std.proofs.lemmas.List.Elements.{All-map, All-weaker}
use Rattle.std.proofs.lemmas.Map.Keys.{IsDistinct-from_sorted}
use Rattle.std.proofs.lemmas.Map.Made.{update_all_none}
use Rattle.eob_both.specs.Places.{from_places, map_places}
use Rattle.eob_lists.specs.Join.{Rising, value_under}
use Rattle.eob_lists.specs.JoinLaws.{deref_joined, RisingEqMapLaw, RisingKeysLaw, RisingLaw, RisingMapLaw, SortedRisesLaw, ShownRisesLaw, ShownJoinLaw}
use Rattle.eob_lists.proofs.MergeLemmas.{Up, up, up_weaker, rising}

module _ {K : Type 0} (cmp : K → K → Ordering) where
  pub rising_law : (V : Type 0) → RisingLaw cmp V
  unfolding Rising
  rising_law V xs = (λ h. h, λ h. h)

  sorted_after : {V : Type 0} (j : K) (xs : List (K × V)) → AllByRecursion (λ k. cmp j k ≡ Less) (keys_of xs) → IsStrictlySortedBy cmp (keys_of xs) → Up cmp (λ k. cmp j k ≡ Less) xs
  unfolding IsStrictlySortedBy
  sorted_after j [] a s = tt
  sorted_after j (x ∷ xs) a s = (a.0, sorted_after x.0 xs s.0 s.1)

  sorted_up : {V : Type 0} (xs : List (K × V)) → IsStrictlySortedBy cmp (keys_of xs) → Up cmp (λ k. ⊤) xs
  unfolding IsStrictlySortedBy
  sorted_up [] s = tt
  sorted_up (x ∷ xs) s = (tt, sorted_after x.0 xs s.0 s.1)

  pub sorted_rises : (V : Type 0) → SortedRisesLaw cmp V
  sorted_rises V xs s = rising cmp (λ k. ⊤) xs (sorted_up xs s)

  module _ (o : IsTotalOrder cmp) where
    all_after : {V : Type 0} (j : K) (xs : List (K × V)) → Up cmp (λ k. cmp j k ≡ Less) xs → AllByRecursion (λ k. cmp j k ≡ Less) (keys_of xs)
    all_after j [] h = tt
    all_after j (x ∷ xs) h = (h.0, all_after j xs (up_weaker cmp (λ k. cmp x.0 k ≡ Less) (λ k. cmp j k ≡ Less) (λ k l. o.trans j x.0 k h.0 l) xs h.1))

    up_sorted : {V : Type 0} (P : K → Type 0) (xs : List (K × V)) → Up cmp P xs → IsStrictlySortedBy cmp (keys_of xs)
    unfolding IsStrictlySortedBy
    up_sorted P [] h = tt
    up_sorted P (x ∷ xs) h = (all_after x.0 xs h.1, up_sorted (λ k. cmp x.0 k ≡ Less) xs h.1)

    pub rising_keys : (V : Type 0) → RisingKeysLaw cmp V
    rising_keys V xs h = let s = up_sorted (λ k. ⊤) xs (up cmp xs h) in (s, IsDistinct-from_sorted cmp (keys_of xs) s)

    pub rising_map : (V : Type 0) → RisingMapLaw cmp V
    rising_map V xs h k = update_all_none (eq_by_cmp_equiv o) (eq_by_cmp cmp) (λ x y. refl) xs k (rising_keys V xs h).1

    pub rising_eq_map : (V : Type 0) (eq : K → K → Bool) → ((x y : K) → eq x y ≡ is_eq (cmp x y)) → RisingEqMapLaw cmp V eq
    rising_eq_map V eq matches xs h k = update_all_none (eq_by_cmp_equiv o) eq matches xs k (rising_keys V xs h).1

  -- the order of references
  abbrev shown : Bor K → Bor K → Ordering
  shown j k = cmp j.now k.now

  from_shown : {V : Type 0} (j : Bor K) (xs : List (Bor K × Bor V)) → Up cmp (λ k. cmp j.now k ≡ Less) (map deref_pair xs) → Up shown (λ k. shown j k ≡ Less) xs
  from_shown j [] h = tt
  from_shown j (x ∷ xs) h = (h.0, from_shown x.0 xs h.1)

  shown_up : {V : Type 0} (xs : List (Bor K × Bor V)) → Up cmp (λ k. ⊤) (map deref_pair xs) → Up shown (λ k. ⊤) xs
  shown_up [] h = tt
  shown_up (x ∷ xs) h = (tt, from_shown x.0 xs h.1)

  pub shown_rises : (V : Type 0) → ShownRisesLaw cmp V
  shown_rises V xs h = rising shown (λ k. ⊤) xs (shown_up xs (up cmp (map deref_pair xs) h))

  module _ {V W : Type 0} (f : V → W) where
    abbrev read : Bor K × V → K × W
    read x = (x.0.now, f x.1)

    read_after : (j : Bor K) (xs : List (Bor K × V)) → Up shown (λ k. shown j k ≡ Less) xs → Up cmp (λ k. cmp j.now k ≡ Less) (map read xs)
    read_after j [] h = tt
    read_after j (x ∷ xs) h = (h.0, read_after x.0 xs h.1)

    read_up : (xs : List (Bor K × V)) → Up shown (λ k. ⊤) xs → Up cmp (λ k. ⊤) (map read xs)
    read_up [] h = tt
    read_up (x ∷ xs) h = (tt, read_after x.0 xs h.1)

    if_read : (t : Bool) (v : V) (o : Option V) (z : Option W) → z ≡ option_map f o → cond t (Some (f v)) z ≡ option_map f (cond t (Some v) o)
    if_read true v o z e = refl
    if_read false v o z e = e

    value_read : (k : Bor K) (xs : List (Bor K × V)) → value_under cmp (map read xs) k.now ≡ option_map f (value_under shown xs k)
    value_read k [] = refl
    value_read k (x ∷ xs) = if_read (is_eq (cmp k.now x.0.now)) x.1 (value_under shown xs k) _ (value_read k xs)

    keys_read : (xs : List (Bor K × V)) → map (λ (j : Bor K). j.now) (keys_of xs) ≡ keys_of (map read xs)
    keys_read [] = refl
    keys_read (x ∷ xs) = ap (λ ks. x.0.now ∷ ks) (keys_read xs)

    contains_now : (ks : List (Bor K)) (j : Bor K) → Contains ks j → Contains (map (λ (i : Bor K). i.now) ks) j.now
    contains_now ks j h = (h.0, rw length-map h.1, get_or-map (λ (i : Bor K). i.now) ks h.0 j ∙ ap (λ (i : Bor K). i.now) h.2)

    contains_read : (xs : List (Bor K × V)) (j : Bor K) → Contains (keys_of xs) j → Contains (keys_of (map read xs)) j.now
    contains_read xs j h = subst (λ ks. Contains ks j.now) (keys_read xs) (contains_now (keys_of xs) j h)

  places_read : {L R T U : Type 0} (f : L → T) (g : R → U) (m : Option L) (n : Option R) → option_map (map_places f g) (from_places m n) ≡ from_places (option_map f m) (option_map g n)
  places_read f g None None = refl
  places_read f g None (Some y) = refl
  places_read f g (Some x) None = refl
  places_read f g (Some x) (Some y) = refl

  pub shown_join : (A B : Type 0) → ShownJoinLaw cmp A B
  shown_join A B p q zs h =
      let f : Bor A → A = λ a. a.now in
      let g : Bor B → B = λ b. b.now in
      record {
        rises = rising cmp (λ k. ⊤) (map deref_joined zs) (read_up (map_places f g) zs (up shown zs h.rises));
        values = λ k.
            let j : Bor K = record { ref_ptr = (0, 0); now = k } in
            value_read (map_places f g) j zs ∙ ap (option_map (map_places f g)) (h.values j) ∙ places_read f g (value_under shown p j) (value_under shown q j)
            ∙ sym (ap₂ from_places (value_read f j p) (value_read g j q));
        keys = All-map (λ z. Contains (keys_of (map deref_pair p)) z.0 ⊎ Contains (keys_of (map deref_pair q)) z.0) deref_joined zs
            (All-weaker (λ z. Contains (keys_of p) z.0 ⊎ Contains (keys_of q) z.0) (λ z. Contains (keys_of (map deref_pair p)) z.0.now ⊎ Contains (keys_of (map deref_pair q)) z.0.now)
            (λ z e. elim e [ inl a ↦ inl (contains_read f p z.0 a) | inr b ↦ inr (contains_read g q z.0 b) ]) zs h.keys);
      }
