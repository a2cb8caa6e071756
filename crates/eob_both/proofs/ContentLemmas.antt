-- What a map or a set holds after one more entry or item is put.
use Rattle.std.proofs.Common.{◌≡◌, Bool, true, false, not, cond, filter, ◌||◌, ℕ, ◌+◌, ◌<◌, arith, get_or, ◌↔◌, suc, length, List, [], ◌∷◌, ◌++◌, Option, Some, None, is_some, reverse, unwrap_or, refl, sym, ap, ◌∙◌}
use Rattle.std.proofs.lemmas.List.{reverse-append, map-append}
use Rattle.std.proofs.lemmas.List.Folds.{list_any-append}
use Rattle.std.proofs.lemmas.Map.Made.{is_some-lookup, length-from_keys}
use Rattle.std.proofs.lemmas.Map.Entries.{lookup-filter-keys}
use Rattle.std.proofs.lemmas.Map.Views.{any-filter_same}
use Rattle.std.proofs.lemmas.Cmp.{eq_by_cmp_equiv}
use Rattle.std.proofs.lemmas.Map.Keys.{IsDistinct-from_sorted}
use Rattle.std.specs.BTreeMap.{is_at}
use Rattle.std.specs.Cmp.{IsEquivalence, IsTotalOrder}
use Rattle.std.specs.List.Sorted.{IsStrictlySortedBy}
use Rattle.std.specs.Ordering.{eq_by_cmp}
use Rattle.std.specs.declared.cmp.Ordering.{Ordering}
use Rattle.std.specs.List.{All, AllPairs, IsDistinct, list_any}
use Rattle.std.proofs.lemmas.List.Elements.{filter_passes}
use Rattle.std.proofs.lemmas.List.Kept.{AllPairs-cons, AllPairs-filter}
use Rattle.std.specs.Map.{keys_of, lookup}
use Rattle.std.specs.Option.{option_or}
use Rattle.std.specs.Set.{distinct_count, is_member, unique_keys}
use Rattle.indexmap.specs.IndexMap.{insert_entry}
use Rattle.indexmap.specs.IndexSet.{insert_key}
use Rattle.indexmap.proofs.SetLemmas.{filter_keep, filter_skip, keys_insert_entry}
use Rattle.eob_both.specs.Contents.{first_items, first_list, first_place, last_value, AreFirstItems, AreMembers, AreRisingMembers, IsFirstList, IsLastMap, IsLastValue, IsRisingMap, StandByFirstPlaces}

module _ {K : Type 0} (eq : K → K → Bool) (laws : IsEquivalence eq) where
  -- what passes as not equal to y, where x is or is not equal to y
  apart : (x y : K) (b : Bool) → eq x y ≡ b → not (eq y x) ≡ not b
  apart x y b e = ap not (laws.symm y x ∙ e)

  -- where x and y are not equal, no item that is equal to x is lost with those equal to y
  any-others : (x y : K) (ks : List K) → eq x y ≡ false → list_any (eq x) (filter (λ z. not (eq y z)) ks) ≡ list_any (eq x) ks
  any-others x y ks e =
      any-filter_same (eq x) (λ z. not (eq y z)) true (λ z h. apart z y false (sym (laws.congr x z y h) ∙ e)) ks

  -- one more item goes last where no item before is equal to it
  pub first_items-push : (xs : List K) (x : K) → first_items eq (xs ++ x ∷ []) ≡ insert_key eq (first_items eq xs) x
  first_items-push [] x = refl
  first_items-push (y ∷ ys) x = ap (λ l. y ∷ filter (λ z. not (eq y z)) l) (first_items-push ys x) ∙ by (eq x y) (list_any (eq x) (first_items eq ys)) refl refl
    where
      by : (b m : Bool) → eq x y ≡ b → list_any (eq x) (first_items eq ys) ≡ m
          → (y ∷ filter (λ z. not (eq y z)) (insert_key eq (first_items eq ys) x)) ≡ insert_key eq (y ∷ filter (λ z. not (eq y z)) (first_items eq ys)) x
      by true true e f = rw (e, f)
      by true false e f = rw (e, f) (ap (λ l. y ∷ l) (filter_skip (λ z. not (eq y z)) (first_items eq ys) x (apart x y true e)))
      by false true e f = rw (e, any-others x y (first_items eq ys) e, f)
      by false false e f = rw (e, any-others x y (first_items eq ys) e, f) (ap (λ l. y ∷ l) (filter_keep (λ z. not (eq y z)) (first_items eq ys) x (apart x y false e)))

  members-push : (xs ks ls : List K) (x : K) → ((q : K) → is_member eq ls q ≡ cond (eq x q) true (is_member eq ks q)) → ((q : K) → is_member eq ks q ≡ is_member eq xs q) → (q : K) → is_member eq ls q ≡ is_member eq (xs ++ x ∷ []) q
  members-push xs ks ls x said h q = said q ∙ (rw (laws.symm x q, h q, list_any-append (eq q) xs (x ∷ [])) (by (eq q x) (list_any (eq q) xs)))
    where
      by : (b c : Bool) → cond b true c ≡ (c || (b || false))
      by true true = refl
      by true false = refl
      by false true = refl
      by false false = refl

  -- a list of members, with one item more
  pub AreMembers-push : (xs ks ls : List K) (x : K) → IsDistinct eq ls → ((q : K) → is_member eq ls q ≡ cond (eq x q) true (is_member eq ks q)) → AreMembers eq xs ks → AreMembers eq (xs ++ x ∷ []) ls
  AreMembers-push xs ks ls x once said h =
      let same = members-push xs ks ls x said h.same in
      record { once = once; same = same; count = length-from_keys laws ls (xs ++ x ∷ []) once same }

  -- the same in the order of first places
  pub AreFirstItems-push : (xs ks ls : List K) (x : K) → ls ≡ insert_key eq ks x → IsDistinct eq ls → ((q : K) → is_member eq ls q ≡ cond (eq x q) true (is_member eq ks q)) → AreFirstItems eq xs ks → AreFirstItems eq (xs ++ x ∷ []) ls
  AreFirstItems-push xs ks ls x put once said h =
      let same = members-push xs ks ls x said h.same in
      record {
        order = put ∙ ap (λ l. insert_key eq l x) h.order ∙ sym (first_items-push xs x);
        once = once;
        same = same;
        count = length-from_keys laws ls (xs ++ x ∷ []) once same;
      }

  -- the distinct items are the items
  pub first_items-same : (xs : List K) (k : K) → is_member eq (first_items eq xs) k ≡ is_member eq xs k
  first_items-same [] k = refl
  first_items-same (x ∷ xs) k = by (eq k x) refl (first_items-same xs k)
    where
      by : (b : Bool) → eq k x ≡ b → is_member eq (first_items eq xs) k ≡ is_member eq xs k → (eq k x || list_any (eq k) (filter (λ y. not (eq x y)) (first_items eq xs))) ≡ (eq k x || list_any (eq k) xs)
      by true e h = rw e refl
      by false e h = rw (e, any-others k x (first_items eq xs) e) h

  place-head : (x : K) (xs : List K) → first_place eq (x ∷ xs) x ≡ 0
  place-head x xs = rw (laws.refl x) refl

  place-later : (x y : K) (xs : List K) → not (eq x y) ≡ true → first_place eq (x ∷ xs) y ≡ 1 + first_place eq xs y
  place-later x y xs h = rw (laws.symm y x, h) refl

  first_items-pairs : (xs : List K) → AllPairs (λ a b. first_place eq xs a < first_place eq xs b) (first_items eq xs)
  first_items-pairs [] = λ i j d before within. omega (arith, within)
  first_items-pairs (x ∷ xs) =
      let kept = filter (λ y. not (eq x y)) (first_items eq xs) in
      let apart : All (λ y. not (eq x y) ≡ true) kept = filter_passes (λ y. not (eq x y)) (first_items eq xs) in
      let order = AllPairs-filter (λ a b. first_place eq xs a < first_place eq xs b) (λ y. not (eq x y)) (first_items eq xs) (first_items-pairs xs) in
      AllPairs-cons (λ a b. first_place eq (x ∷ xs) a < first_place eq (x ∷ xs) b) x kept
      (λ k d within. omega (arith, place-head x xs, place-later x (get_or kept k d) xs (apart k d within)))
      (λ i j d before within. omega (arith, order i j d before within, place-later x (get_or kept i d) xs (apart i d (omega (arith, before, within))), place-later x (get_or kept j d) xs (apart j d within)))

  -- the distinct items stand in the order of their first places
  pub first_items-order : (xs : List K) → StandByFirstPlaces eq xs (first_items eq xs)
  unfolding StandByFirstPlaces
  first_items-order xs = first_items-pairs xs

  -- only an empty list has no distinct item
  none_distinct : (xs : List K) → distinct_count eq xs ≡ 0 → xs ≡ []
  none_distinct [] e = refl
  none_distinct (x ∷ xs) e = by (is_member eq xs x) refl (none_distinct xs) e
    where
      by : (b : Bool) → is_member eq xs x ≡ b → (distinct_count eq xs ≡ 0 → xs ≡ []) → length (cond b (unique_keys eq xs) (x ∷ unique_keys eq xs)) ≡ 0 → x ∷ xs ≡ []
      by true m r h = let f : false ≡ true = sym (ap (λ l. is_member eq l x) (r h)) ∙ m in cc
      by false m r h = cc

  -- what has as many keys as a list has distinct ones is empty exactly if the list is
  pub none_counted : (n : ℕ) (xs : List K) → n ≡ distinct_count eq xs → (n ≡ 0) ↔ (xs ≡ [])
  none_counted n xs e = (λ h. none_distinct xs (sym e ∙ h), λ h. e ∙ ap (distinct_count eq) h)

  pub none_keyed : {X : Type 0} (n : ℕ) (kvs : List (K × X)) → n ≡ distinct_count eq (keys_of kvs) → (n ≡ 0) ↔ (kvs ≡ [])
  none_keyed {X} n kvs e = (λ h. unkeyed kvs (none_distinct (keys_of kvs) (sym e ∙ h)), λ h. e ∙ ap (λ l. distinct_count eq (keys_of l)) h)
    where
      unkeyed : (l : List (K × X)) → keys_of l ≡ [] → l ≡ []
      unkeyed [] h = refl
      unkeyed (x ∷ l) h = cc

module _ {K V : Type 0} (eq : K → K → Bool) (laws : IsEquivalence eq) where
  lookup-push : (es : List (K × V)) (e : K × V) (q : K) → lookup (eq q) (es ++ e ∷ []) ≡ option_or (lookup (eq q) es) (lookup (eq q) (e ∷ []))
  lookup-push [] e q = refl
  lookup-push (d ∷ es) e q = by (eq q d.0) refl (lookup-push es e q)
    where
      by : (b : Bool) → eq q d.0 ≡ b → lookup (eq q) (es ++ e ∷ []) ≡ option_or (lookup (eq q) es) (lookup (eq q) (e ∷ [])) → lookup (eq q) ((d ∷ es) ++ e ∷ []) ≡ option_or (lookup (eq q) (d ∷ es)) (lookup (eq q) (e ∷ []))
      by true h r = rw h
      by false h r = rw h r

  pub last_value-cons : (e : K × V) (kvs : List (K × V)) (q : K) → last_value eq (e ∷ kvs) q ≡ option_or (last_value eq kvs q) (cond (eq q e.0) (Some e.1) None)
  last_value-cons e kvs q = ap (lookup (eq q)) (reverse-append (e ∷ []) kvs) ∙ lookup-push (reverse kvs) e q

  pub last_value-push : (kvs : List (K × V)) (e : K × V) (q : K) → last_value eq (kvs ++ e ∷ []) q ≡ cond (eq e.0 q) (Some e.1) (last_value eq kvs q)
  last_value-push kvs e q = rw (reverse-append kvs (e ∷ []), laws.symm e.0 q)

  -- a key has a last value exactly if some place holds it
  pub is_some-last_value : (kvs : List (K × V)) (q : K) → is_some (last_value eq kvs q) ≡ is_member eq (keys_of kvs) q
  is_some-last_value [] q = refl
  is_some-last_value (e ∷ kvs) q = rw (last_value-cons e kvs q) (by (eq q e.0) (last_value eq kvs q) (is_some-last_value kvs q))
    where
      by : (b : Bool) (o : Option V) {m : Bool} → is_some o ≡ m → is_some (option_or o (cond b (Some e.1) None)) ≡ (b || m)
      by true (Some v) h = refl
      by true None h = refl
      by false (Some v) h = h
      by false None h = h

  count_last : (kvs es : List (K × V)) → IsDistinct eq (keys_of es) → ((q : K) → lookup (eq q) es ≡ last_value eq kvs q) → length es ≡ distinct_count eq (keys_of kvs)
  count_last kvs es once last =
      sym (length-keys es) ∙ length-from_keys laws (keys_of es) (keys_of kvs) once (λ q. sym (is_some-lookup (eq q) es) ∙ ap is_some (last q) ∙ is_some-last_value kvs q)
    where
      length-keys : (fs : List (K × V)) → length (keys_of fs) ≡ length fs
      length-keys [] = refl
      length-keys (f ∷ fs) = ap (λ n. suc n) (length-keys fs)

  -- an entry whose key is left out by a filter makes no difference to what is kept
  filter-skip : (d k : K) (v : V) (l : List (K × V)) → eq d k ≡ true → filter (λ f. not (eq d f.0)) (insert_entry eq l k v) ≡ filter (λ f. not (eq d f.0)) l
  filter-skip d k v [] h = rw h refl
  filter-skip d k v (f ∷ l) h = by (eq k f.0) (eq d f.0) refl refl (filter-skip d k v l h)
    where
      by : (b c : Bool) → eq k f.0 ≡ b → eq d f.0 ≡ c → filter (λ f. not (eq d f.0)) (insert_entry eq l k v) ≡ filter (λ f. not (eq d f.0)) l
          → filter (λ f. not (eq d f.0)) (insert_entry eq (f ∷ l) k v) ≡ filter (λ f. not (eq d f.0)) (f ∷ l)
      by true true s t r = rw (s, t) refl
      by true false s t r = let no : false ≡ true = sym t ∙ laws.congr d k f.0 h ∙ s in cc
      by false true s t r = rw (s, t) r
      by false false s t r = rw (s, t) (ap (λ z. f ∷ z) r)

  -- any other entry is put after the filter as before it
  filter-keep : (d k : K) (v : V) (l : List (K × V)) → eq d k ≡ false → filter (λ f. not (eq d f.0)) (insert_entry eq l k v) ≡ insert_entry eq (filter (λ f. not (eq d f.0)) l) k v
  filter-keep d k v [] h = rw h refl
  filter-keep d k v (f ∷ l) h = by (eq k f.0) (eq d f.0) refl refl (filter-keep d k v l h)
    where
      by : (b c : Bool) → eq k f.0 ≡ b → eq d f.0 ≡ c → filter (λ f. not (eq d f.0)) (insert_entry eq l k v) ≡ insert_entry eq (filter (λ f. not (eq d f.0)) l) k v
          → filter (λ f. not (eq d f.0)) (insert_entry eq (f ∷ l) k v) ≡ insert_entry eq (filter (λ f. not (eq d f.0)) (f ∷ l)) k v
      by true true s t r = let no : false ≡ true = sym h ∙ laws.symm d k ∙ laws.congr k f.0 d s ∙ laws.symm f.0 d ∙ t in cc
      by true false s t r = rw (s, t, s) refl
      by false true s t r = rw (s, t) r
      by false false s t r = rw (s, t, s) (ap (λ z. f ∷ z) r)

  -- one more entry changes the value of its key in place, or goes last
  pub first_list-push : (kvs : List (K × V)) (e : K × V) → first_list eq (kvs ++ e ∷ []) ≡ insert_entry eq (first_list eq kvs) e.0 e.1
  first_list-push [] e = refl
  first_list-push (d ∷ kvs) e = rw (first_list-push kvs e, last_value-push kvs e d.0) (by (eq e.0 d.0) refl)
    where
      by : (b : Bool) → eq e.0 d.0 ≡ b
          → ((d.0, unwrap_or (cond (eq e.0 d.0) (Some e.1) (last_value eq kvs d.0)) d.1) ∷ filter (λ f. not (eq d.0 f.0)) (insert_entry eq (first_list eq kvs) e.0 e.1))
          ≡ insert_entry eq ((d.0, unwrap_or (last_value eq kvs d.0) d.1) ∷ filter (λ f. not (eq d.0 f.0)) (first_list eq kvs)) e.0 e.1
      by true h = rw (h, filter-skip d.0 e.0 e.1 (first_list eq kvs) (laws.symm d.0 e.0 ∙ h)) refl
      by false h = rw (h, filter-keep d.0 e.0 e.1 (first_list eq kvs) (laws.symm d.0 e.0 ∙ h)) refl

  keys-filter : (d : K) (l : List (K × V)) → keys_of (filter (λ f. not (eq d f.0)) l) ≡ filter (λ y. not (eq d y)) (keys_of l)
  keys-filter d [] = refl
  keys-filter d (f ∷ l) = by (eq d f.0) refl (keys-filter d l)
    where
      by : (b : Bool) → eq d f.0 ≡ b → keys_of (filter (λ g. not (eq d g.0)) l) ≡ filter (λ y. not (eq d y)) (keys_of l)
          → keys_of (filter (λ g. not (eq d g.0)) (f ∷ l)) ≡ filter (λ y. not (eq d y)) (keys_of (f ∷ l))
      by true e h = rw e h
      by false e h = rw e (ap (λ m. f.0 ∷ m) h)

  -- the keys stand in the order of their first places
  pub first_list-keys : (kvs : List (K × V)) → keys_of (first_list eq kvs) ≡ first_items eq (keys_of kvs)
  first_list-keys [] = refl
  first_list-keys (e ∷ kvs) = ap (λ l. e.0 ∷ l) (keys-filter e.0 (first_list eq kvs) ∙ ap (filter (λ y. not (eq e.0 y))) (first_list-keys kvs))

  -- equal keys are bound alike
  lookup-equal : (q k : K) → eq q k ≡ true → (es : List (K × V)) → lookup (eq q) es ≡ lookup (eq k) es
  lookup-equal q k h [] = refl
  lookup-equal q k h (f ∷ es) = rw (laws.congr q k f.0 h, lookup-equal q k h es) refl

  -- each key has the value of its last place
  pub first_list-last : (kvs : List (K × V)) (q : K) → lookup (eq q) (first_list eq kvs) ≡ last_value eq kvs q
  first_list-last [] q = refl
  first_list-last (e ∷ kvs) q = by (eq q e.0) refl (first_list-last kvs q) ∙ sym (last_value-cons e kvs q)
    where
      or_none : (o : Option V) → o ≡ option_or o None
      or_none None = refl
      or_none (Some v) = refl

      or_some : (o : Option V) (v : V) → Some (unwrap_or o v) ≡ option_or o (Some v)
      or_some None v = refl
      or_some (Some w) v = refl

      by : (b : Bool) → eq q e.0 ≡ b → lookup (eq q) (first_list eq kvs) ≡ last_value eq kvs q
          → lookup (eq q) ((e.0, unwrap_or (last_value eq kvs e.0) e.1) ∷ filter (λ f. not (eq e.0 f.0)) (first_list eq kvs)) ≡ option_or (last_value eq kvs q) (cond (eq q e.0) (Some e.1) None)
      by true t h = rw t (or_some (last_value eq kvs e.0) e.1 ∙ ap (λ o. option_or o (Some e.1)) (sym (lookup-equal q e.0 t (reverse kvs))))
      by false t h = rw t (lookup-filter-keys (eq q) (λ k. not (eq e.0 k)) true (λ k m. apart eq laws k e.0 false (sym (laws.congr q k e.0 m) ∙ t)) (first_list eq kvs) ∙ h ∙ or_none (last_value eq kvs q))

  -- a map of last places, with one entry more
  pub IsLastMap-push : (kvs es fs : List (K × V)) (e : K × V) → IsDistinct eq (keys_of fs) → ((q : K) → lookup (eq q) fs ≡ cond (eq e.0 q) (Some e.1) (lookup (eq q) es)) → IsLastMap eq kvs es → IsLastMap eq (kvs ++ e ∷ []) fs
  IsLastMap-push kvs es fs e once said h =
      let last : (q : K) → lookup (eq q) fs ≡ last_value eq (kvs ++ e ∷ []) q = λ q. said q ∙ (rw (h.last q) (sym (last_value-push kvs e q))) in
      record { once = once; last = last; count = count_last (kvs ++ e ∷ []) fs once last }

  -- the same in the order of first places
  pub IsFirstList-push : (kvs es fs : List (K × V)) (e : K × V) → fs ≡ insert_entry eq es e.0 e.1 → IsDistinct eq (keys_of fs) → ((q : K) → lookup (eq q) fs ≡ cond (eq e.0 q) (Some e.1) (lookup (eq q) es)) → IsFirstList eq kvs es → IsFirstList eq (kvs ++ e ∷ []) fs
  IsFirstList-push kvs es fs e put once said h =
      let last : (q : K) → lookup (eq q) fs ≡ last_value eq (kvs ++ e ∷ []) q = λ q. said q ∙ (rw (h.last q) (sym (last_value-push kvs e q))) in
      record {
        entries = put ∙ ap (λ l. insert_entry eq l e.0 e.1) h.entries ∙ sym (first_list-push kvs e);
        order = ap keys_of put ∙ keys_insert_entry eq es e.0 e.1 ∙ ap (λ l. insert_key eq l e.0) h.order ∙ sym (rw (map-append (λ (p : K × V). p.0) kvs (e ∷ [])) (first_items-push eq laws (keys_of kvs) e.0));
        once = once;
        last = last;
        count = count_last (kvs ++ e ∷ []) fs once last;
      }

  -- the value of the last place, in terms of places
  pub last_value-places : (kvs : List (K × V)) (q : K) (v : V) → last_value eq kvs q ≡ Some v → IsLastValue eq kvs q v
  unfolding IsLastValue
  last_value-places [] q v h = cc
  last_value-places (e ∷ kvs) q v h = by (last_value eq kvs q) (eq q e.0) refl refl (last_value-places kvs q v) (sym (last_value-cons e kvs q) ∙ h)
    where
      by : (o : Option V) (b : Bool) → last_value eq kvs q ≡ o → eq q e.0 ≡ b → (last_value eq kvs q ≡ Some v → IsLastValue eq kvs q v) → option_or o (cond b (Some e.1) None) ≡ Some v → IsLastValue eq (e ∷ kvs) q v
      by (Some w) b l t ih s = let r = ih (l ∙ s) in (e ∷ r.0, r.1, r.2, ap (λ z. e ∷ z) r.3, r.4, r.5)
      by None true l t ih s = let f : e.1 ≡ v = cc in ([], e.0, kvs, ap (λ z. (e.0, z) ∷ kvs) f, t, sym (is_some-last_value kvs q) ∙ ap is_some l)
      by None false l t ih s = cc

  pub last_value-from_places : (kvs : List (K × V)) (q : K) (v : V) → IsLastValue eq kvs q v → last_value eq kvs q ≡ Some v
  unfolding IsLastValue
  last_value-from_places kvs q v h = ap (λ l. last_value eq l q) h.3 ∙ at h.0
    where
      none : (o : Option V) → is_some o ≡ false → o ≡ None
      none None e = refl
      none (Some w) e = cc

      at : (before : List (K × V)) → last_value eq (before ++ (h.1, v) ∷ h.2) q ≡ Some v
      at [] = last_value-cons (h.1, v) h.2 q ∙ (rw (none (last_value eq h.2 q) (is_some-last_value h.2 q ∙ h.5), h.4) refl)
      at (b ∷ before) = last_value-cons b (before ++ (h.1, v) ∷ h.2) q ∙ (rw (at before) refl)

  -- a key has no last value exactly if no place holds it
  pub last_value-none : (kvs : List (K × V)) (q : K) → (last_value eq kvs q ≡ None) ↔ (is_member eq (keys_of kvs) q ≡ false)
  last_value-none kvs q = (λ h. sym (is_some-last_value kvs q) ∙ ap is_some h, λ h. none (last_value eq kvs q) (is_some-last_value kvs q ∙ h))
    where
      none : (o : Option V) → is_some o ≡ false → o ≡ None
      none None e = refl
      none (Some w) e = cc

module _ {K : Type 0} (cmp : K → K → Ordering) (total : IsTotalOrder cmp) where
  tied : IsEquivalence (eq_by_cmp cmp)
  tied = eq_by_cmp_equiv total

  pub AreRisingMembers-nil : (ks : List K) → ks ≡ [] → IsStrictlySortedBy cmp ks → AreRisingMembers cmp [] ks
  AreRisingMembers-nil ks e rising = record { rising = rising; same = λ k. ap (list_any (is_at (cmp k))) e; count = ap length e }

  -- a list of strictly increasing members, with one item more
  pub AreRisingMembers-push : (xs ks ls : List K) (x : K) → IsStrictlySortedBy cmp ls → ((q : K) → list_any (is_at (cmp q)) ls ≡ cond (is_at (cmp x) q) true (list_any (is_at (cmp q)) ks)) → AreRisingMembers cmp xs ks → AreRisingMembers cmp (xs ++ x ∷ []) ls
  AreRisingMembers-push xs ks ls x rising said h =
      let same = members-push (eq_by_cmp cmp) tied xs ks ls x said h.same in
      record { rising = rising; same = same; count = length-from_keys tied ls (xs ++ x ∷ []) (IsDistinct-from_sorted cmp ls rising) same }

  module _ {V : Type 0} where
    pub IsRisingMap-nil : (es : List (K × V)) → es ≡ [] → IsStrictlySortedBy cmp (keys_of es) → IsRisingMap cmp [] es
    IsRisingMap-nil es e rising = record { rising = rising; last = λ k. ap (lookup (is_at (cmp k))) e; count = ap length e }

    -- a strictly increasing map of last places, with one entry more
    pub IsRisingMap-push : (kvs es fs : List (K × V)) (e : K × V) → IsStrictlySortedBy cmp (keys_of fs) → ((q : K) → lookup (is_at (cmp q)) fs ≡ cond (is_at (cmp e.0) q) (Some e.1) (lookup (is_at (cmp q)) es)) → IsRisingMap cmp kvs es → IsRisingMap cmp (kvs ++ e ∷ []) fs
    IsRisingMap-push kvs es fs e rising said h =
        let last : (q : K) → lookup (is_at (cmp q)) fs ≡ last_value (eq_by_cmp cmp) (kvs ++ e ∷ []) q = λ q. said q ∙ (rw (h.last q) (sym (last_value-push (eq_by_cmp cmp) tied kvs e q))) in
        record { rising = rising; last = last; count = count_last (eq_by_cmp cmp) tied (kvs ++ e ∷ []) fs (IsDistinct-from_sorted cmp (keys_of fs) rising) last }
