-- The first two neighbours with the same key, among rows in the order of their keys.
use Rattle.std.proofs.Common.{◌≡◌, ◌∙◌, ◌≤◌, false, cond, List, [], ◌∷◌, length, map, filter, Option, Some, None, arith, refl, sym, ap, subst, true≢false}
use Rattle.std.specs.Prelude.{⊤, ◌&&◌, drop, find, not, unwrap_or, zip}
use Rattle.std.proofs.lemmas.List.{length-map}
use Rattle.std.proofs.lemmas.List.Elements.{filter_agree}
use Rattle.std.specs.Cmp.{IsTotalOrder, alike_right, tied_itself}
use Rattle.std.specs.List.Sorted.{IsSortedBy, IsStableBy, ties}
use Rattle.std.specs.Ordering.{is_eq, is_lt, ordering_reverse}
use Rattle.std.specs.declared.cmp.Ordering.{Ordering}
use Rattle.std.specs.declared.cmp.Ordering.TheVariants.{Less, Equal, Greater}
use Rattle.eob_lists.specs.Join.{Rising}
use Rattle.eob_lists.proofs.MergeLemmas.{Up, rising}
use Rattle.keyed_tables.proofs.ClimbLemmas.{Climbs, NoneBefore, before, sorted_climbs}
use Rattle.keyed_tables.specs.Repeated.{IsFirstRepeat}

module _ {X K : Type 0} (key : X → K) (cmp : K → K → Ordering) (o : IsTotalOrder cmp) where
  -- the first two neighbours with the same key
  abbrev pub repeat_of : List X → Option (X × X)
  repeat_of xs = find (λ pair. is_eq (cmp (key pair.0) (key pair.1))) (zip xs (drop 1 xs))

  module _ {W : Type 0} (value : X → W) where
    -- rows that climb strictly increase where no neighbours have the same key
    abbrev Above : X → List X → Type 0
    Above x ys = Up cmp (λ k. cmp (key x) k ≡ Less) (map (λ y. (key y, value y)) ys)

    above : (x y : X) (ys : List X) (r : Ordering) → cmp (key x) (key y) ≡ r → is_lt (cmp (key y) (key x)) ≡ false → cond (is_eq r) (Some (x, y)) (repeat_of (y ∷ ys)) ≡ None
        → (repeat_of (y ∷ ys) ≡ None → Above y ys) → Above x (y ∷ ys)
    above x y ys Less f h e next = (f, next e)
    above x y ys Equal f h e next = absurd (cc)
    above x y ys Greater f h e next = absurd (true≢false (sym (ap is_lt (o.antisymm (key y) (key x) ∙ ap ordering_reverse f)) ∙ h))

    up_from : (x : X) (xs : List X) → Climbs key cmp (x ∷ xs) → repeat_of (x ∷ xs) ≡ None → Above x xs
    up_from x [] h e = tt
    up_from x (y ∷ ys) h e = above x y ys (cmp (key x) (key y)) refl h.0.0 e (up_from y ys h.1)

    up_rows : (xs : List X) → Climbs key cmp xs → repeat_of xs ≡ None → Up cmp (λ k. ⊤) (map (λ y. (key y, value y)) xs)
    up_rows [] h e = tt
    up_rows (x ∷ xs) h e = (tt, up_from x xs h e)

    -- rows in the order of their keys strictly increase where no neighbours have the same
    pub rows_rise : (xs : List X) → IsSortedBy (before key cmp) xs → repeat_of xs ≡ None → Rising cmp (map (λ y. (key y, value y)) xs)
    rows_rise xs sorted e = rising cmp (λ k. ⊤) (map (λ y. (key y, value y)) xs) (up_rows xs (sorted_climbs key cmp o xs sorted) e)

  -- the rows under a key
  abbrev At : K → List X → List X
  At k xs = filter (λ y. is_eq (cmp k (key y))) xs

  -- what is found: no lesser key than the first row's; under its key both rows first; and under each lesser key one row at most
  abbrev Found : X → List X → X × X → Type 0
  Found x xs p = (is_lt (cmp (key p.0) (key x)) ≡ false) × ((rest : List X) × (At (key p.0) (x ∷ xs) ≡ p.0 ∷ p.1 ∷ rest))
      × ((k : K) → cmp k (key p.0) ≡ Less → length (At k (x ∷ xs)) ≤ 1)

  -- what is less than a value is less than what is not less than that
  lesser_by : (k v w : K) (r : Ordering) → cmp w v ≡ r → is_lt r ≡ false → cmp k v ≡ Less → cmp k w ≡ Less
  lesser_by k v w Less f h l = absurd (true≢false h)
  lesser_by k v w Equal f h l = alike_right o w v k f ∙ l
  lesser_by k v w Greater f h l = o.trans k v w l (o.antisymm v w ∙ ap ordering_reverse f)

  lesser : (k v w : K) → cmp k v ≡ Less → is_lt (cmp w v) ≡ false → cmp k w ≡ Less
  lesser k v w l h = lesser_by k v w (cmp w v) refl h l

  none_at : (k v : K) (xs : List X) → cmp k v ≡ Less → NoneBefore key cmp v xs → At k xs ≡ []
  none_at k v [] l h = refl
  none_at k v (x ∷ xs) l h = rw (lesser k v (key x) l h.0) (none_at k v xs l h.1)

  -- the first two rows have one key
  found_here : (x y : X) (ys : List X) → cmp (key x) (key y) ≡ Equal → Climbs key cmp (x ∷ y ∷ ys) → Found x (y ∷ ys) (x, y)
  found_here x y ys f h = (
    ap is_lt (tied_itself o (key x)),
    (At (key x) ys, rw (tied_itself o (key x), f) refl),
    λ k l. rw (l, none_at k (key x) (y ∷ ys) l h.0) (omega arith),
  )

  -- the first row has a lesser key than the next one
  least_by : (x y : X) (ys : List X) (k : K) (r : Ordering) → cmp k (key x) ≡ r → cmp (key x) (key y) ≡ Less → Climbs key cmp (x ∷ y ∷ ys)
      → length (At k (y ∷ ys)) ≤ 1 → length (At k (x ∷ y ∷ ys)) ≤ 1
  least_by x y ys k Less f g h n = rw (f, none_at k (key x) (y ∷ ys) f h.0) (omega arith)
  least_by x y ys k Equal f g h n =
      let l : cmp k (key y) ≡ Less = o.congr k (key x) (key y) f ∙ g in
      rw (f, l, none_at k (key y) ys l h.1.0) (omega arith)
  least_by x y ys k Greater f g h n = rw f n

  found_later : (x y : X) (ys : List X) (p : X × X) → cmp (key x) (key y) ≡ Less → Climbs key cmp (x ∷ y ∷ ys) → Found y ys p → Found x (y ∷ ys) p
  found_later x y ys p f h later =
      let l : cmp (key x) (key p.0) ≡ Less = lesser (key x) (key y) (key p.0) f later.0 in
      let g : cmp (key p.0) (key x) ≡ Greater = o.antisymm (key p.0) (key x) ∙ ap ordering_reverse l in (
        ap is_lt g,
        (later.1.0, rw g later.1.1),
        λ k b. least_by x y ys k (cmp k (key x)) refl f h (later.2 k b),
      )

  found_by : (x y : X) (ys : List X) (p : X × X) (r : Ordering) → cmp (key x) (key y) ≡ r → Climbs key cmp (x ∷ y ∷ ys) → cond (is_eq r) (Some (x, y)) (repeat_of (y ∷ ys)) ≡ Some p
      → (repeat_of (y ∷ ys) ≡ Some p → Found y ys p) → Found x (y ∷ ys) p
  found_by x y ys p Less f h e next = found_later x y ys p f h (next e)
  found_by x y ys p Equal f h e next = subst (Found x (y ∷ ys)) (ap (λ m. unwrap_or m (x, y)) e) (found_here x y ys f h)
  found_by x y ys p Greater f h e next = absurd (true≢false (sym (ap is_lt (o.antisymm (key y) (key x) ∙ ap ordering_reverse f)) ∙ h.0.0))

  found : (x : X) (xs : List X) (p : X × X) → Climbs key cmp (x ∷ xs) → repeat_of (x ∷ xs) ≡ Some p → Found x xs p
  found x [] p h e = absurd (cc)
  found x (y ∷ ys) p h e = found_by x y ys p (cmp (key x) (key y)) refl h e (found y ys p h.1)

  -- a stable sort leaves the rows under a key
  tie_is : (r s : Ordering) → s ≡ ordering_reverse r → (not (is_lt r) && not (is_lt s)) ≡ is_eq r
  tie_is Less s e = refl
  tie_is Equal s e = rw e refl
  tie_is Greater s e = rw e refl

  same_at : (xs ys : List X) → IsStableBy (before key cmp) xs ys → (x : X) → At (key x) ys ≡ At (key x) xs
  same_at xs ys h x =
      let agree : (y : X) → ties (before key cmp) x y ≡ is_eq (cmp (key x) (key y)) = λ y. tie_is (cmp (key x) (key y)) (cmp (key y) (key x)) (o.antisymm (key y) (key x)) in
      sym (filter_agree (ties (before key cmp) x) (λ y. is_eq (cmp (key x) (key y))) agree ys) ∙ h x ∙ filter_agree (ties (before key cmp) x) (λ y. is_eq (cmp (key x) (key y))) agree xs

  module _ {V : Type 0} (value : X → V) where
    repeated_from : (xs : List X) (x : X) (ys : List X) (p : X × X) → IsStableBy (before key cmp) xs (x ∷ ys) → Found x ys p → IsFirstRepeat cmp key value xs (key p.0) (value p.0) (value p.1)
    repeated_from xs x ys p same f = record {
      twice = (map value f.1.0, ap (map value) (sym (same_at xs (x ∷ ys) same p.0) ∙ f.1.1));
      least = λ row l. rw (length-map (At (key row) xs) value, sym (same_at xs (x ∷ ys) same row)) (f.2 (key row) l);
    }

    -- so what is found among rows put in order by a stable sort is the first repeat of the rows
    pub repeated : (xs ys : List X) (p : X × X) → IsSortedBy (before key cmp) ys → IsStableBy (before key cmp) xs ys → repeat_of ys ≡ Some p
        → IsFirstRepeat cmp key value xs (key p.0) (value p.0) (value p.1)
    repeated xs [] p sorted same e = absurd (cc)
    repeated xs (y ∷ ys) p sorted same e = repeated_from xs y ys p same (found y ys p (sorted_climbs key cmp o (y ∷ ys) sorted) e)

    -- the repeat of a key is that of one on its place in the order
    pub repeated_alike : (xs : List X) (j k : K) (a b : V) → cmp j k ≡ Equal → IsFirstRepeat cmp key value xs k a b → IsFirstRepeat cmp key value xs j a b
    repeated_alike xs j k a b e h = record {
      twice = (h.twice.0, ap (map value) (filter_agree (λ y. is_eq (cmp j (key y))) (λ y. is_eq (cmp k (key y))) (λ y. ap is_eq (o.congr j k (key y) e)) xs) ∙ h.twice.1);
      least = λ row l. h.least row (sym (alike_right o j k (key row) e) ∙ l);
    }
