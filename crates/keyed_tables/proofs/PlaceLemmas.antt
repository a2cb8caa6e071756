-- The placed keys of two versions are those of both, each once: ours in their order, and each new one right after the key that it follows.
use Rattle.std.proofs.Common.{◌≡◌, ◌∙◌, ◌+◌, ◌||◌, ◌⊎◌, ⊎_elim, inl, inr, ℕ, zero, suc, ◌<◌, Bool, true, false, List, [], ◌∷◌, ◌++◌, length, get_or, filter, Some, drop, position, add-one, append_assoc, arith, drop-cons, refl, sym, ap, ap₂, subst, true≢false}
use Rattle.std.specs.Cmp.{IsEquivalence}
use Rattle.std.specs.Cmp.Lexicographic.{bytes_decides, pointwise_decides}
use Rattle.std.proofs.lemmas.Cmp.{lists_equiv, nat_list_eq_equiv}
use Rattle.keyed_tables.proofs.ArrangeLemmas.{key_eq}
use Rattle.std.specs.List.{AllByRecursion, IsDistinct, flat_map, list_any}
use Rattle.std.specs.List.Sorted.{IsPermutation}
use Rattle.std.specs.Prelude.{⊤}
use Rattle.std.proofs.lemmas.Grind.{flat_map-append}
use Rattle.std.proofs.lemmas.List.{length-append}
use Rattle.std.proofs.lemmas.List.Elements.{filter-append}
use Rattle.std.proofs.lemmas.List.Quantifiers.{position-Some}
use Rattle.std.proofs.lemmas.List.Sorted.{IsPermutation-append_comm, IsPermutation-append_left, IsPermutation-append_right, IsPermutation-cons, IsPermutation-filter_both, IsPermutation-refl, IsPermutation-sym, IsPermutation-trans}
use Rattle.std.proofs.lemmas.Map.Keys.{IsDistinct-IsPermutation, IsDistinct-cons, IsDistinct-head, IsDistinct-tail}
use Rattle.indexmap.proofs.SetLemmas.{set_all_distinct}
use Rattle.indexmap.specs.IndexSet.{insert_all}
use Rattle.keyed_tables.specs.Placed.{ArePlaced, PlacedLaw, is_among, is_new, new_behind, new_first, placed}

or_true : (a b : Bool) → b ≡ true → (a || b) ≡ true
or_true true b h = refl
or_true false b h = h

first_false : (a b : Bool) → (a || b) ≡ false → a ≡ false
first_false true b h = absurd (true≢false h)
first_false false b h = refl

second_false : (a b : Bool) → (a || b) ≡ false → b ≡ false
second_false true b h = absurd (true≢false h)
second_false false b h = h

-- blocks that change places
blocks : {K : Type 0} (xs ys zs : List K) → IsPermutation (xs ++ (ys ++ zs)) (ys ++ (xs ++ zs))
blocks xs ys zs =
    subst (λ l. IsPermutation l (ys ++ (xs ++ zs))) (append_assoc xs ys zs)
    (subst (λ l. IsPermutation ((xs ++ ys) ++ zs) l) (append_assoc ys xs zs)
    (IsPermutation-append_left zs (xs ++ ys) (ys ++ xs) (IsPermutation-append_comm xs ys)))

module _ {K : Type 0} (eq : K → K → Bool) (laws : IsEquivalence eq) (exact : (x y : K) → eq x y ≡ true → x ≡ y) where
  -- a key is none of these
  abbrev Absent : K → List K → Type 0
  Absent k ts = AllByRecursion (λ y. eq k y ≡ false) ts

  -- each of these is among ours
  AllAmong : List K → List K → Type 0
  AllAmong ours [] = ⊤
  AllAmong ours (z ∷ zs) = (is_among eq ours z ≡ true) × AllAmong ours zs

  among_here : (xs : List K) (z : K) (zs : List K) → is_among eq (xs ++ z ∷ zs) z ≡ true
  among_here [] z zs = rw (laws.refl z) refl
  among_here (x ∷ xs) z zs = or_true (eq z x) (is_among eq (xs ++ z ∷ zs) z) (among_here xs z zs)

  among_rest : (xs zs : List K) → AllAmong (xs ++ zs) zs
  unfolding AllAmong
  among_rest xs [] = tt
  among_rest xs (z ∷ zs) = (among_here xs z zs, subst (λ l. AllAmong l zs) (append_assoc xs (z ∷ []) zs) (among_rest (xs ++ z ∷ []) zs))

  module _ (ours : List K) where
    -- no new key is among ours
    first_none : (ts : List K) → filter (is_among eq ours) (new_first eq ours ts) ≡ []
    first_none [] = refl
    first_none (t ∷ ts) = by (is_among eq ours t) refl (first_none ts)
      where
        by : (b : Bool) → is_among eq ours t ≡ b → filter (is_among eq ours) (new_first eq ours ts) ≡ [] → filter (is_among eq ours) (new_first eq ours (t ∷ ts)) ≡ []
        by true e h = rw e refl
        by false e h = rw (e, e) h

    behind_none : (ts : List K) (k : K) → filter (is_among eq ours) (new_behind eq ours ts k) ≡ []
    behind_none [] k = refl
    behind_none (t ∷ ts) k = by (eq k t) refl (behind_none ts k)
      where
        by : (b : Bool) → eq k t ≡ b → filter (is_among eq ours) (new_behind eq ours ts k) ≡ [] → filter (is_among eq ours) (new_behind eq ours (t ∷ ts) k) ≡ []
        by true e h = rw e (first_none ts)
        by false e h = rw e h

    -- and each is new
    first_new : (ts : List K) → filter (is_new eq ours) (new_first eq ours ts) ≡ new_first eq ours ts
    first_new [] = refl
    first_new (t ∷ ts) = by (is_among eq ours t) refl (first_new ts)
      where
        by : (b : Bool) → is_among eq ours t ≡ b → filter (is_new eq ours) (new_first eq ours ts) ≡ new_first eq ours ts → filter (is_new eq ours) (new_first eq ours (t ∷ ts)) ≡ new_first eq ours (t ∷ ts)
        by true e h = rw e refl
        by false e h = rw (e, e) (ap (λ l. t ∷ l) h)

    behind_new : (ts : List K) (k : K) → filter (is_new eq ours) (new_behind eq ours ts k) ≡ new_behind eq ours ts k
    behind_new [] k = refl
    behind_new (t ∷ ts) k = by (eq k t) refl (behind_new ts k)
      where
        by : (b : Bool) → eq k t ≡ b → filter (is_new eq ours) (new_behind eq ours ts k) ≡ new_behind eq ours ts k → filter (is_new eq ours) (new_behind eq ours (t ∷ ts) k) ≡ new_behind eq ours (t ∷ ts) k
        by true e h = rw e (first_new ts)
        by false e h = rw e h

    module _ (theirs : List K) where
      -- keys of ours, each with the new ones after it
      abbrev with_new : List K → List K
      with_new zs = flat_map (λ k. k ∷ new_behind eq ours theirs k) zs

      abbrev new_alone : List K → List K
      new_alone zs = flat_map (λ k. new_behind eq ours theirs k) zs

      with_kept : (zs : List K) → AllAmong ours zs → filter (is_among eq ours) (with_new zs) ≡ zs
      unfolding AllAmong
      with_kept [] h = refl
      with_kept (z ∷ zs) h =
          rw h.0 (ap (λ l. z ∷ l) (filter-append (is_among eq ours) (new_behind eq ours theirs z) (with_new zs)
          ∙ ap (λ l. l ++ filter (is_among eq ours) (with_new zs)) (behind_none theirs z) ∙ with_kept zs h.1))

      with_alone : (zs : List K) → AllAmong ours zs → filter (is_new eq ours) (with_new zs) ≡ new_alone zs
      unfolding AllAmong
      with_alone [] h = refl
      with_alone (z ∷ zs) h =
          rw h.0 (filter-append (is_new eq ours) (new_behind eq ours theirs z) (with_new zs)
          ∙ ap₂ (λ a b. a ++ b) (behind_new theirs z) (with_alone zs h.1))

      kept : filter (is_among eq ours) (placed eq ours theirs) ≡ ours
      kept =
          filter-append (is_among eq ours) (new_first eq ours theirs) (with_new ours)
          ∙ ap (λ l. l ++ filter (is_among eq ours) (with_new ours)) (first_none theirs) ∙ with_kept ours (among_rest [] ours)

      new_ones : filter (is_new eq ours) (placed eq ours theirs) ≡ new_first eq ours theirs ++ new_alone ours
      new_ones =
          filter-append (is_new eq ours) (new_first eq ours theirs) (with_new ours)
          ∙ ap₂ (λ a b. a ++ b) (first_new theirs) (with_alone ours (among_rest [] ours))

    -- where no key follows
    none_alone : (zs : List K) → new_alone [] zs ≡ []
    none_alone [] = refl
    none_alone (z ∷ zs) = none_alone zs

    -- a key that is not there has none after it
    absent_behind : (ts : List K) (k : K) → Absent k ts → new_behind eq ours ts k ≡ []
    absent_behind [] k h = refl
    absent_behind (t ∷ ts) k h = rw h.0 (absent_behind ts k h.1)

    own_behind : (ts : List K) (t : K) → new_behind eq ours (t ∷ ts) t ≡ new_first eq ours ts
    own_behind ts t = rw (laws.refl t) refl

    -- one more key before the others changes nothing after those that differ from it
    same_alone : (t : K) (ts zs : List K) → list_any (eq t) zs ≡ false → new_alone (t ∷ ts) zs ≡ new_alone ts zs
    same_alone t ts [] h = refl
    same_alone t ts (z ∷ zs) h =
        let apart : eq z t ≡ false = laws.symm z t ∙ first_false (eq t z) (list_any (eq t) zs) h in
        rw apart (ap (λ l. new_behind eq ours ts z ++ l) (same_alone t ts zs (second_false (eq t z) (list_any (eq t) zs) h)))

    none_any : (z : K) (zs : List K) → Absent z zs → list_any (eq z) zs ≡ false
    none_any z [] h = refl
    none_any z (y ∷ ys) h = rw h.0 (none_any z ys h.1)

    -- those that were first stand after the one that comes before them
    moved : (t : K) (ts zs : List K) → Absent t ts → IsDistinct eq zs → list_any (eq t) zs ≡ true → IsPermutation (new_first eq ours ts ++ new_alone ts zs) (new_alone (t ∷ ts) zs)
    moved t ts [] a d h = absurd (true≢false (sym h))
    moved t ts (z ∷ zs) a d h = by (eq t z) refl (λ m. moved t ts zs a (IsDistinct-tail eq z zs d) m)
      where
        by : (b : Bool) → eq t z ≡ b → (list_any (eq t) zs ≡ true → IsPermutation (new_first eq ours ts ++ new_alone ts zs) (new_alone (t ∷ ts) zs)) → IsPermutation (new_first eq ours ts ++ new_alone ts (z ∷ zs)) (new_alone (t ∷ ts) (z ∷ zs))
        by true e m =
            let one : t ≡ z = exact t z e in
            let others : list_any (eq t) zs ≡ false = ap (λ k. list_any (eq k) zs) one ∙ none_any z zs (IsDistinct-head eq z zs d) in
            let here : new_behind eq ours (t ∷ ts) z ≡ new_first eq ours ts = ap (λ k. new_behind eq ours (t ∷ ts) k) (sym one) ∙ own_behind ts t in
            let gone : new_behind eq ours ts z ≡ [] = ap (λ k. new_behind eq ours ts k) (sym one) ∙ absent_behind ts t a in
            let same : new_first eq ours ts ++ new_alone ts (z ∷ zs) ≡ new_alone (t ∷ ts) (z ∷ zs) =
            ap (λ l. new_first eq ours ts ++ (l ++ new_alone ts zs)) gone ∙ sym (ap₂ (λ a b. a ++ b) here (same_alone t ts zs others)) in
            subst (IsPermutation (new_first eq ours ts ++ new_alone ts (z ∷ zs))) same (IsPermutation-refl (new_first eq ours ts ++ new_alone ts (z ∷ zs)))
        by false e m =
            let there : list_any (eq t) zs ≡ true = sym (ap (λ b. b || list_any (eq t) zs) e) ∙ h in
            let apart : eq z t ≡ false = laws.symm z t ∙ e in
            let step : new_behind eq ours (t ∷ ts) z ≡ new_behind eq ours ts z = rw apart refl in
            subst (λ l. IsPermutation (new_first eq ours ts ++ new_alone ts (z ∷ zs)) (l ++ new_alone (t ∷ ts) zs)) (sym step)
            (IsPermutation-trans _ _ _ (blocks (new_first eq ours ts) (new_behind eq ours ts z) (new_alone ts zs))
            (IsPermutation-append_right (new_behind eq ours ts z) _ _ (m there)))

    -- the new keys are there, each once
    all_new : (ts : List K) → IsDistinct eq ours → IsDistinct eq ts → IsPermutation (filter (is_new eq ours) ts) (new_first eq ours ts ++ new_alone ts ours)
    all_new [] o d = subst (IsPermutation []) (sym (none_alone ours)) (IsPermutation-refl [])
    all_new (t ∷ ts) o d = by (is_among eq ours t) refl (all_new ts o (IsDistinct-tail eq t ts d))
      where
        by : (b : Bool) → is_among eq ours t ≡ b → IsPermutation (filter (is_new eq ours) ts) (new_first eq ours ts ++ new_alone ts ours) → IsPermutation (filter (is_new eq ours) (t ∷ ts)) (new_first eq ours (t ∷ ts) ++ new_alone (t ∷ ts) ours)
        by true e h =
            let first : new_first eq ours (t ∷ ts) ≡ [] = rw e refl in
            let left : filter (is_new eq ours) (t ∷ ts) ≡ filter (is_new eq ours) ts = rw e refl in
            subst (λ l. IsPermutation l (new_first eq ours (t ∷ ts) ++ new_alone (t ∷ ts) ours)) (sym left)
            (subst (λ l. IsPermutation (filter (is_new eq ours) ts) (l ++ new_alone (t ∷ ts) ours)) (sym first)
            (IsPermutation-trans _ _ _ h (moved t ts ours (IsDistinct-head eq t ts d) o e)))
        by false e h =
            let first : new_first eq ours (t ∷ ts) ≡ t ∷ new_first eq ours ts = rw e refl in
            let left : filter (is_new eq ours) (t ∷ ts) ≡ t ∷ filter (is_new eq ours) ts = rw e refl in
            subst (λ l. IsPermutation l (new_first eq ours (t ∷ ts) ++ new_alone (t ∷ ts) ours)) (sym left)
            (subst (λ l. IsPermutation (t ∷ filter (is_new eq ours) ts) (l ++ new_alone (t ∷ ts) ours)) (sym first)
            (subst (λ l. IsPermutation (t ∷ filter (is_new eq ours) ts) (t ∷ (new_first eq ours ts ++ l))) (sym (same_alone t ts ours e))
            (IsPermutation-cons t _ _ h)))

    permuted : (theirs : List K) → IsDistinct eq ours → IsDistinct eq theirs → IsPermutation (ours ++ filter (is_new eq ours) theirs) (placed eq ours theirs)
    permuted theirs o d =
        let parts : IsPermutation (placed eq ours theirs) (filter (is_among eq ours) (placed eq ours theirs) ++ filter (is_new eq ours) (placed eq ours theirs)) =
        IsPermutation-filter_both (is_among eq ours) (is_new eq ours) (λ x. refl) (placed eq ours theirs) in
        let both : IsPermutation (placed eq ours theirs) (ours ++ (new_first eq ours theirs ++ new_alone theirs ours)) =
        subst (IsPermutation (placed eq ours theirs)) (ap₂ (λ a b. a ++ b) (kept theirs) (new_ones theirs)) parts in
        IsPermutation-trans _ _ _ (IsPermutation-append_right ours _ _ (all_new theirs o d)) (IsPermutation-sym _ _ both)

    -- two keys stand one after the other
    abbrev Stand : K → K → List K → Type 0
    Stand p t l = (us : List K) × (vs : List K) × (l ≡ us ++ p ∷ t ∷ vs)

    -- they do so in the new keys that theirs begins with, or in those with a key of ours before them
    abbrev StandIn : K → K → List K → Type 0
    StandIn p t theirs = Stand p t (new_first eq ours theirs) ⊎ ((k : K) × (is_among eq ours k ≡ true) × Stand p t (k ∷ new_behind eq ours theirs k))

    too_short : (k p t : K) (us vs : List K) → k ∷ [] ≡ us ++ p ∷ t ∷ vs → ⊥
    too_short k p t us vs h =
        let counted : 1 ≡ length us + length (p ∷ t ∷ vs) = ap length h ∙ length-append us (p ∷ t ∷ vs) in
        omega (arith, counted)

    apart : (k x : K) → is_among eq ours k ≡ true → is_among eq ours x ≡ false → eq k x ≡ false
    apart k x h e = by (eq k x) refl
      where
        by : (b : Bool) → eq k x ≡ b → eq k x ≡ false
        by true f = absurd (true≢false (sym h ∙ ap (is_among eq ours) (exact k x f) ∙ e))
        by false f = f

    stand_here : (p t : K) (ts : List K) → is_among eq ours t ≡ false → StandIn p t (p ∷ t ∷ ts)
    stand_here p t ts e = by (is_among eq ours p) refl
      where
        next : new_first eq ours (t ∷ ts) ≡ t ∷ new_first eq ours ts
        next = rw e refl

        by : (b : Bool) → is_among eq ours p ≡ b → StandIn p t (p ∷ t ∷ ts)
        by true f = inr (p, f, ([], new_first eq ours ts, ap (λ l. p ∷ l) (own_behind (t ∷ ts) p ∙ next)))
        by false f = inl ([], new_first eq ours ts, rw f (ap (λ l. p ∷ l) next))

    -- a key more before them
    stand_on : (p t x : K) (ts : List K) → Absent x ts → StandIn p t ts → StandIn p t (x ∷ ts)
    stand_on p t x ts a s = by (is_among eq ours x) refl
      where
        first : is_among eq ours x ≡ false → new_first eq ours (x ∷ ts) ≡ x ∷ new_first eq ours ts
        first e = rw e refl

        skip : (k : K) → eq k x ≡ false → new_behind eq ours (x ∷ ts) k ≡ new_behind eq ours ts k
        skip k e = rw e refl

        other : (k : K) (b : Bool) → eq k x ≡ b → is_among eq ours k ≡ true → Stand p t (k ∷ new_behind eq ours ts k) → StandIn p t (x ∷ ts)
        other k true f h z =
            let none : new_behind eq ours ts k ≡ [] = ap (λ y. new_behind eq ours ts y) (exact k x f) ∙ absent_behind ts x a in
            absurd (too_short k p t z.0 z.1 (sym (ap (λ l. k ∷ l) none) ∙ z.2))
        other k false f h z = inr (k, h, (z.0, z.1, ap (λ l. k ∷ l) (skip k f) ∙ z.2))

        by : (b : Bool) → is_among eq ours x ≡ b → StandIn p t (x ∷ ts)
        by true e = ⊎_elim (λ z. inr (x, e, (x ∷ z.0, z.1, ap (λ l. x ∷ l) (own_behind ts x ∙ z.2)))) (λ z. other z.0 (eq z.0 x) refl z.1 z.2) s
        by false e = ⊎_elim (λ z. inl (x ∷ z.0, z.1, first e ∙ ap (λ l. x ∷ l) z.2)) (λ z. other z.0 false (apart z.0 x z.1 e) z.1 z.2) s

    stand_in : (p t : K) (xs ts : List K) → is_among eq ours t ≡ false → IsDistinct eq (xs ++ p ∷ t ∷ ts) → StandIn p t (xs ++ p ∷ t ∷ ts)
    stand_in p t [] ts e d = stand_here p t ts e
    stand_in p t (x ∷ xs) ts e d =
        stand_on p t x (xs ++ p ∷ t ∷ ts) (IsDistinct-head eq x (xs ++ p ∷ t ∷ ts) d)
        (stand_in p t xs ts e (IsDistinct-tail eq x (xs ++ p ∷ t ∷ ts) d))

    -- a key that is among these stands between others
    split : (k : K) (zs : List K) → list_any (eq k) zs ≡ true → (cs : List K) × (ds : List K) × (zs ≡ cs ++ k ∷ ds)
    split k [] h = absurd (true≢false (sym h))
    split k (z ∷ zs) h = by (eq k z) refl (λ m. split k zs m)
      where
        by : (b : Bool) → eq k z ≡ b → (list_any (eq k) zs ≡ true → (cs : List K) × (ds : List K) × (zs ≡ cs ++ k ∷ ds)) → (cs : List K) × (ds : List K) × (z ∷ zs ≡ cs ++ k ∷ ds)
        by true e m = ([], zs, ap (λ y. y ∷ zs) (sym (exact k z e)))
        by false e m =
            let s = m (sym (ap (λ b. b || list_any (eq k) zs) e) ∙ h) in
            (z ∷ s.0, s.1, ap (λ l. z ∷ l) s.2)

    module _ (p t : K) where
      front : (us vs ws : List K) → (us ++ p ∷ t ∷ vs) ++ ws ≡ us ++ p ∷ t ∷ (vs ++ ws)
      front us vs ws = append_assoc us (p ∷ t ∷ vs) ws

      deep : (xs ys us vs ws : List K) → xs ++ (ys ++ ((us ++ p ∷ t ∷ vs) ++ ws)) ≡ (xs ++ (ys ++ us)) ++ p ∷ t ∷ (vs ++ ws)
      deep xs ys us vs ws =
          ap (λ l. xs ++ (ys ++ l)) (front us vs ws) ∙ ap (λ l. xs ++ l) (sym (append_assoc ys us (p ∷ t ∷ (vs ++ ws))))
          ∙ sym (append_assoc xs (ys ++ us) (p ∷ t ∷ (vs ++ ws)))

      -- so they do in the placed keys
      stand_placed : (theirs : List K) → StandIn p t theirs → Stand p t (placed eq ours theirs)
      stand_placed theirs s = ⊎_elim first later s
        where
          first : Stand p t (new_first eq ours theirs) → Stand p t (placed eq ours theirs)
          first z = (z.0, z.1 ++ with_new theirs ours, ap (λ l. l ++ with_new theirs ours) z.2 ∙ front z.0 z.1 (with_new theirs ours))

          later : ((k : K) × (is_among eq ours k ≡ true) × Stand p t (k ∷ new_behind eq ours theirs k)) → Stand p t (placed eq ours theirs)
          later z =
              let s = split z.0 ours z.1 in
              let cut : with_new theirs ours ≡ with_new theirs s.0 ++ ((z.0 ∷ new_behind eq ours theirs z.0) ++ with_new theirs s.1) =
              ap (with_new theirs) s.2 ∙ flat_map-append (λ k. k ∷ new_behind eq ours theirs k) s.0 (z.0 ∷ s.1) in (
                new_first eq ours theirs ++ (with_new theirs s.0 ++ z.2.0),
                z.2.1 ++ with_new theirs s.1,
                ap (λ l. new_first eq ours theirs ++ l) (cut ∙ ap (λ l. with_new theirs s.0 ++ (l ++ with_new theirs s.1)) z.2.2)
                    ∙ deep (new_first eq ours theirs) (with_new theirs s.0) z.2.0 z.2.1 (with_new theirs s.1),
              )

    are_placed : (theirs : List K) → IsDistinct eq ours → IsDistinct eq theirs → ArePlaced eq ours theirs (placed eq ours theirs)
    are_placed theirs o d = record {
      same = permuted theirs o d;
      kept = kept theirs;
      first = λ t ts e n. (new_first eq ours ts ++ with_new theirs ours, first_of_all t ts e n);
      behind = λ xs p t ts e n. stand_placed p t theirs
          (subst (StandIn p t) (sym e) (stand_in p t xs ts n (subst (IsDistinct eq) e d)));
    }
      where
        begins : (t : K) (ts : List K) → is_among eq ours t ≡ false → new_first eq ours (t ∷ ts) ≡ t ∷ new_first eq ours ts
        begins t ts n = rw n refl

        first_of_all : (t : K) (ts : List K) → theirs ≡ t ∷ ts → is_among eq ours t ≡ false → placed eq ours theirs ≡ t ∷ (new_first eq ours ts ++ with_new theirs ours)
        first_of_all t ts e n = ap (λ l. l ++ with_new theirs ours) (ap (new_first eq ours) e ∙ begins t ts n)

  pub placed_law : PlacedLaw eq
  placed_law ours theirs o d = are_placed ours theirs o d

  all_append : (P : K → Type 0) (xs ys : List K) → AllByRecursion P xs → AllByRecursion P ys → AllByRecursion P (xs ++ ys)
  all_append P [] ys h g = g
  all_append P (x ∷ xs) ys h g = (h.0, all_append P xs ys h.1 g)

  weaker : (P Q : K → Type 0) → ((k : K) → P k → Q k) → (xs : List K) → AllByRecursion P xs → AllByRecursion Q xs
  weaker P Q f [] h = tt
  weaker P Q f (x ∷ xs) h = (f x h.0, weaker P Q f xs h.1)

  -- keys after others of which none is one of them
  distinct_behind : (xs ys : List K) → IsDistinct eq xs → IsDistinct eq ys → AllByRecursion (λ y. list_any (eq y) xs ≡ false) ys → IsDistinct eq (xs ++ ys)
  distinct_behind [] ys d e h = e
  distinct_behind (x ∷ xs) ys d e h =
      IsDistinct-cons eq x (xs ++ ys)
      (all_append (λ y. eq x y ≡ false) xs ys (IsDistinct-head eq x xs d)
      (weaker (λ y. (eq y x || list_any (eq y) xs) ≡ false) (λ y. eq x y ≡ false) (λ y g. laws.symm x y ∙ first_false (eq y x) (list_any (eq y) xs) g) ys h))
      (distinct_behind xs ys (IsDistinct-tail eq x xs d) e
      (weaker (λ y. (eq y x || list_any (eq y) xs) ≡ false) (λ y. list_any (eq y) xs ≡ false) (λ y g. second_false (eq y x) (list_any (eq y) xs) g) ys h))

  all_kept : (P : K → Type 0) (p : K → Bool) (xs : List K) → AllByRecursion P xs → AllByRecursion P (filter p xs)
  all_kept P p [] h = tt
  all_kept P p (x ∷ xs) h = by (p x) refl (all_kept P p xs h.1)
    where
      by : (b : Bool) → p x ≡ b → AllByRecursion P (filter p xs) → AllByRecursion P (filter p (x ∷ xs))
      by true e g = rw e (h.0, g)
      by false e g = rw e g

  distinct_kept : (p : K → Bool) (xs : List K) → IsDistinct eq xs → IsDistinct eq (filter p xs)
  distinct_kept p [] d = d
  distinct_kept p (x ∷ xs) d = by (p x) refl (distinct_kept p xs (IsDistinct-tail eq x xs d))
    where
      by : (b : Bool) → p x ≡ b → IsDistinct eq (filter p xs) → IsDistinct eq (filter p (x ∷ xs))
      by true e g = rw e (IsDistinct-cons eq x (filter p xs) (all_kept (λ y. eq x y ≡ false) p xs (IsDistinct-head eq x xs d)) g)
      by false e g = rw e g

  new_apart : (ours ts : List K) → AllByRecursion (λ y. list_any (eq y) ours ≡ false) (filter (is_new eq ours) ts)
  new_apart ours [] = tt
  new_apart ours (t ∷ ts) = by (is_among eq ours t) refl (new_apart ours ts)
    where
      by : (b : Bool) → is_among eq ours t ≡ b → AllByRecursion (λ y. list_any (eq y) ours ≡ false) (filter (is_new eq ours) ts) → AllByRecursion (λ y. list_any (eq y) ours ≡ false) (filter (is_new eq ours) (t ∷ ts))
      by true e g = rw e g
      by false e g = rw e (e, g)

  -- a turn of the loop that puts the first new keys, and its end
  pub first_ends : (ours ts : List K) (i : ℕ) (k : K) → i < length ts → k ≡ get_or ts i k → is_among eq ours k ≡ true → new_first eq ours (drop i ts) ≡ []
  first_ends ours ts i k l h e = ap (new_first eq ours) (drop-cons ts i k l ∙ ap (λ y. y ∷ drop (suc i) ts) (sym h)) ∙ rw e refl

  pub first_more : (ours ts : List K) (i : ℕ) (k : K) → i < length ts → k ≡ get_or ts i k → is_among eq ours k ≡ false → new_first eq ours (drop i ts) ≡ k ∷ new_first eq ours (drop (i + 1) ts)
  first_more ours ts i k l h e = rw add-one (ap (new_first eq ours) (drop-cons ts i k l ∙ ap (λ y. y ∷ drop (suc i) ts) (sym h)) ∙ rw e refl)

  -- what stands after a key that is at a place, and after one that is at none
  at_place : (ours ts : List K) (k d : K) (i : ℕ) → i < length ts → eq k (get_or ts i d) ≡ true → ((j : ℕ) → j < i → eq k (get_or ts j d) ≡ false) → new_behind eq ours ts k ≡ new_first eq ours (drop 1 (drop i ts))
  at_place ours [] k d i l h f = absurd (omega (arith, l))
  at_place ours (t ∷ ts) k d zero l h f = rw h refl
  at_place ours (t ∷ ts) k d (suc i) l h f =
      let here : eq k t ≡ false = f 0 (omega arith) in
      rw here (at_place ours ts k d i (omega (arith, l)) h (λ j b. f (suc j) (omega (arith, b))))

  pub behind_at : (ours ts : List K) (k : K) (i : ℕ) → position (eq k) ts ≡ Some i → new_behind eq ours ts k ≡ new_first eq ours (drop 1 (drop i ts))
  behind_at ours ts k i e = let p = position-Some (eq k) ts i k e in at_place ours ts k k i p.0 p.1 p.2

  pub behind_no : (ours ts : List K) (k : K) → list_any (eq k) ts ≡ false → new_behind eq ours ts k ≡ []
  behind_no ours [] k h = refl
  behind_no ours (t ∷ ts) k h = rw (first_false (eq k t) (list_any (eq k) ts) h) (behind_no ours ts k (second_false (eq k t) (list_any (eq k) ts) h))

  -- a turn of the loop that puts each key with the new ones after it
  pub with_more : (ours ts ks : List K) (i : ℕ) (k : K) → i < length ours → k ≡ get_or ours i k
      → ((ks ++ k ∷ []) ++ new_behind eq ours ts k) ++ flat_map (λ y. y ∷ new_behind eq ours ts y) (drop (i + 1) ours)
      ≡ ks ++ flat_map (λ y. y ∷ new_behind eq ours ts y) (drop i ours)
  with_more ours ts ks i k l h =
      let all = flat_map (λ y. y ∷ new_behind eq ours ts y) in
      let here : all (drop i ours) ≡ (k ∷ new_behind eq ours ts k) ++ all (drop (suc i) ours) = ap all (drop-cons ours i k l ∙ ap (λ y. y ∷ drop (suc i) ours) (sym h)) in
      rw (add-one) (ap (λ l. l ++ all (drop (suc i) ours)) (append_assoc ks (k ∷ []) (new_behind eq ours ts k))
      ∙ append_assoc ks (k ∷ new_behind eq ours ts k) (all (drop (suc i) ours)) ∙ ap (λ l. ks ++ l) (sym here))

  -- no key is placed twice
  pub distinct_placed : (ours theirs : List K) → IsDistinct eq ours → IsDistinct eq theirs → IsDistinct eq (placed eq ours theirs)
  distinct_placed ours theirs o d =
      IsDistinct-IsPermutation eq laws.symm _ _ (permuted ours theirs o d)
      (distinct_behind ours (filter (is_new eq ours) theirs) o (distinct_kept (is_new eq ours) theirs d) (new_apart ours theirs))

-- the keys of a table are compared cell by cell
pub keys_equiv : IsEquivalence key_eq
keys_equiv = lists_equiv nat_list_eq_equiv

pub keys_exact : (j k : List (List ℕ)) → key_eq j k ≡ true → j ≡ k
keys_exact j k e = (pointwise_decides bytes_decides j k).0 e

pub key_placed_law : PlacedLaw key_eq
key_placed_law = placed_law key_eq keys_equiv keys_exact

pub keys_distinct : (ours theirs : List (List (List ℕ))) → IsDistinct key_eq ours → IsDistinct key_eq theirs → IsDistinct key_eq (placed key_eq ours theirs)
keys_distinct = distinct_placed key_eq keys_equiv keys_exact

-- the set of keys of which none stands twice
pub set_of_distinct : (keys : List (List (List ℕ))) → IsDistinct key_eq keys → insert_all key_eq [] keys ≡ keys
set_of_distinct keys d = set_all_distinct keys_equiv [] keys d
