-- How the loops of a join of maps come closer to it; a map laid over another; and the join of parts of two maps.
use Rattle.std.proofs.Common.{◌≡◌, ◌∙◌, Bool, true, false, cond, List, [], ◌∷◌, ◌++◌, filter, Option, Some, None, append-nil, append_assoc, refl, sym, ap, ap₂, subst, true≢false}
use Rattle.std.specs.Prelude.{not, is_some, nat_eq}
use Rattle.std.specs.Option.{option_map, option_or}
use Rattle.std.specs.Cmp.{IsEquivalence}
use Rattle.std.specs.Iterator.Runs.{WholeRun}
use Rattle.std.specs.Map.Iter.{GivesInOrder, TakesFirst}
use Rattle.std.proofs.iter.runs.Made.{seen}
use Rattle.std.specs.Map.{keys_of, lookup}
use Rattle.std.specs.Set.{is_member}
use Rattle.std.specs.List.{AllByRecursion, IsDistinct}
use Rattle.std.proofs.lemmas.List.{map-append}
use Rattle.std.proofs.lemmas.List.Elements.{filter-append}
use Rattle.std.proofs.lemmas.Map.Entries.{lookup-filter-keys}
use Rattle.std.proofs.lemmas.Map.Keys.{IsDistinct-head, IsDistinct-tail}
use Rattle.std.proofs.lemmas.Map.Made.{is_some-lookup, lookup-map_values}
use Rattle.eob_both.specs.declared.either_or_both.EitherOrBoth.{EitherOrBoth}
use Rattle.eob_both.specs.declared.either_or_both.EitherOrBoth.TheVariants.{Left, Both, Right}
use Rattle.eob_both.specs.Places.{from_places, left_place, right_place}
use Rattle.indexmap.specs.IndexMap.{insert_all, insert_entry}
use Rattle.eob_joins.specs.MapJoin.{AddsRight, AddsRights, IsMapJoin, IsMapOverlay, MapPartsLaw, lefts_of}

by_test : {G : Type 0} (t : Bool) → (t ≡ true → G) → (t ≡ false → G) → G
by_test true f g = f refl
by_test false f g = g refl

or_none : {V : Type 0} (m : Option V) → option_or m None ≡ m
or_none None = refl
or_none (Some v) = refl

-- a row that had no right place, once it has one
one_more : {A B : Type 0} (m : Option A) (row new : EitherOrBoth A B) (b : B) → Some row ≡ from_places m None → left_place new ≡ left_place row → right_place new ≡ Some b → Some new ≡ from_places m (Some b)
one_more None row new b e f g = absurd (cc)
one_more (Some a) (Left x) (Both y z) b e f g = cc
one_more (Some a) (Left x) (Left y) b e f g = absurd (cc)
one_more (Some a) (Left x) (Right y) b e f g = absurd (cc)
one_more (Some a) (Both x y) new b e f g = absurd (cc)
one_more (Some a) (Right x) new b e f g = absurd (cc)

-- where both places are absent
neither : {A B : Type 0} (m : Option A) → None ≡ from_places {R = B} m None → m ≡ None
neither None e = refl
neither (Some a) e = absurd (cc)

has_left : {A B : Type 0} (m : Option A) (row : EitherOrBoth A B) → Some row ≡ from_places m None → is_some m ≡ true
has_left None row e = absurd (cc)
has_left (Some a) row e = refl

module _ {K : Type 0} {eq : K → K → Bool} (laws : IsEquivalence eq) where
  lookup_alike : {V : Type 0} (j k : K) → eq j k ≡ true → (xs : List (K × V)) → lookup (eq j) xs ≡ lookup (eq k) xs
  lookup_alike j k e [] = refl
  lookup_alike j k e (x ∷ xs) = rw (laws.congr j k x.0 e, lookup_alike j k e xs) refl

  lookup_push : {V : Type 0} (j : K) (xs : List (K × V)) (k : K) (v : V) → lookup (eq j) (xs ++ (k, v) ∷ []) ≡ option_or (lookup (eq j) xs) (cond (eq j k) (Some v) None)
  lookup_push j [] k v = refl
  lookup_push j (x ∷ xs) k v = by_test (eq j x.0) (λ t. rw t refl) (λ f. rw f (lookup_push j xs k v))

  at_entry : {V : Type 0} (P : K → Type 0) (zs : List (K × V)) (k : K) (v : V) (rest : List (K × V)) → AllByRecursion P (keys_of (zs ++ (k, v) ∷ rest)) → P k
  at_entry P [] k v rest h = h.0
  at_entry P (z ∷ zs) k v rest h = at_entry P zs k v rest h.1

  -- keys that stand before an entry in a map are not its own
  pub lookup_before : {V : Type 0} (ys : List (K × V)) (k : K) (v : V) (rest : List (K × V)) → IsDistinct eq (keys_of (ys ++ (k, v) ∷ rest)) → lookup (eq k) ys ≡ None
  lookup_before [] k v rest d = refl
  lookup_before (y ∷ ys) k v rest d =
      let apart : eq k y.0 ≡ false = laws.symm k y.0 ∙ at_entry (λ j. eq y.0 j ≡ false) ys k v rest (IsDistinct-head eq y.0 (keys_of (ys ++ (k, v) ∷ rest)) d) in
      rw apart (lookup_before ys k v rest (IsDistinct-tail eq y.0 (keys_of (ys ++ (k, v) ∷ rest)) d))

  keys_lefts : {A : Type 0} (B : Type 0) (ys : List (K × A)) → keys_of (lefts_of {B = B} ys) ≡ keys_of ys
  keys_lefts B [] = refl
  keys_lefts B (y ∷ ys) = ap (λ ks. y.0 ∷ ks) (keys_lefts B ys)

  as_left : {A : Type 0} (B : Type 0) (m : Option A) → option_map {U = EitherOrBoth A B} (λ a. Left a) m ≡ from_places m None
  as_left B None = refl
  as_left B (Some a) = refl

  -- once the left map was walked
  pub join_lefts : {A : Type 0} (B : Type 0) (p : List (K × A)) → IsMapJoin eq {B = B} p [] (lefts_of p)
  join_lefts B p = record { order = keys_lefts B p ∙ sym (append-nil (keys_of p)); values = λ k. lookup-map_values (λ a. Left a) (eq k) p ∙ as_left B (lookup (eq k) p) }

  module _ {A B : Type 0} (p : List (K × A)) (ys : List (K × B)) (k : K) (b : B) (es fs : List (K × EitherOrBoth A B)) where
    abbrev lacked : List K → List K
    lacked ks = filter (λ j. not (is_member eq (keys_of p) j)) ks

    more_keys : lacked (keys_of (ys ++ (k, b) ∷ [])) ≡ lacked (keys_of ys) ++ lacked (k ∷ [])
    more_keys = rw map-append (filter-append (λ j. not (is_member eq (keys_of p) j)) (keys_of ys) (k ∷ []))

    -- a right entry, where the left map has its key
    pub join_present : (row new : EitherOrBoth A B) → IsMapJoin eq p ys es → lookup (eq k) ys ≡ None → lookup (eq k) es ≡ Some row → left_place new ≡ left_place row → right_place new ≡ Some b
        → keys_of fs ≡ keys_of es → ((j : K) → lookup (eq j) fs ≡ cond (eq k j) (Some new) (lookup (eq j) es)) → IsMapJoin eq p (ys ++ (k, b) ∷ []) fs
    join_present row new h none found l r keys there =
        let was : Some row ≡ from_places (lookup (eq k) p) None = sym found ∙ h.values k ∙ ap (from_places (lookup (eq k) p)) none in
        let member : is_member eq (keys_of p) k ≡ true = sym (is_some-lookup (eq k) p) ∙ has_left (lookup (eq k) p) row was in
        record {
          order = keys ∙ h.order ∙ ap (λ ks. keys_of p ++ ks) (sym (more_keys ∙ rw member (append-nil (lacked (keys_of ys)))));
          values = λ j.
              by_test (eq k j)
              (λ t.
              let same : lookup (eq j) p ≡ lookup (eq k) p = sym (lookup_alike k j t p) in
              let back : eq j k ≡ true = laws.symm j k ∙ t in
              let gone : lookup (eq j) ys ≡ None = sym (lookup_alike k j t ys) ∙ none in
              there j ∙ rw (t, same, lookup_push j ys k b, gone, back) (one_more (lookup (eq k) p) row new b was l r))
              (λ f.
              let back : eq j k ≡ false = laws.symm j k ∙ f in
              there j ∙ rw (f, lookup_push j ys k b, back, or_none (lookup (eq j) ys)) (h.values j));
        }

    -- a right entry, where the left map lacks its key
    pub join_absent : IsMapJoin eq p ys es → lookup (eq k) ys ≡ None → lookup (eq k) es ≡ None → fs ≡ es ++ (k, Right b) ∷ [] → IsMapJoin eq p (ys ++ (k, b) ∷ []) fs
    join_absent h none missed made =
        let was : lookup (eq k) p ≡ None = neither (lookup (eq k) p) (sym missed ∙ h.values k ∙ ap (from_places (lookup (eq k) p)) none) in
        let member : is_member eq (keys_of p) k ≡ false = sym (is_some-lookup (eq k) p) ∙ ap is_some was in
        record {
          order = ap keys_of made ∙ rw map-append (ap (λ ks. ks ++ k ∷ []) h.order ∙ append_assoc (keys_of p) (lacked (keys_of ys)) (k ∷ []) ∙ ap (λ ks. keys_of p ++ ks) (sym (more_keys ∙ rw member refl)));
          values = λ j.
              ap (lookup (eq j)) made ∙ lookup_push j es k (Right b) ∙
              by_test (eq j k)
              (λ t.
              let gone : lookup (eq j) ys ≡ None = lookup_alike j k t ys ∙ none in
              rw (lookup_push j ys k b, gone, t, lookup_alike j k t es, missed, lookup_alike j k t p, was) refl)
              (λ f. rw (lookup_push j ys k b, f, or_none (lookup (eq j) es), or_none (lookup (eq j) ys)) (h.values j));
        }

  distinct_lefts : {A : Type 0} (B : Type 0) (p : List (K × A)) → IsDistinct eq (keys_of p) → IsDistinct eq (keys_of (lefts_of {B = B} p))
  distinct_lefts B p d = subst (IsDistinct eq) (sym (keys_lefts B p)) d

  all_before : (P : K → Type 0) (ks : List K) (k : K) → AllByRecursion P (ks ++ k ∷ []) → AllByRecursion P ks
  all_before P [] k h = tt
  all_before P (j ∷ ks) k h = (h.0, all_before P ks k h.1)

  distinct_before : (ks : List K) (k : K) → IsDistinct eq (ks ++ k ∷ []) → IsDistinct eq ks
  unfolding IsDistinct
  distinct_before [] k d = tt
  distinct_before (j ∷ ks) k d = (all_before (λ i. eq j i ≡ false) ks k d.0, distinct_before ks k d.1)

  -- the loop over the right map: one more entry of it
  pub one_right : {A B : Type 0} (q : List (K × B)) (k : K) (b : B) (es now fs : List (K × EitherOrBoth A B))
      → AddsRights eq A q es now → ((p : List (K × A)) → AddsRight eq p k b now fs) → AddsRights eq A (q ++ (k, b) ∷ []) es fs
  one_right q k b es now fs so_far more p d is =
      let before : IsDistinct eq (keys_of q) = distinct_before (keys_of q) k (rw map-append at d) in
      more p q (so_far p before is) (lookup_before q k b [] d)

  -- the loop over the left map: one more entry of it
  pub one_left : {A B : Type 0} (es : List (K × EitherOrBoth A B)) (p : List (K × A)) (k : K) (a : A)
      → insert_all eq es (lefts_of (p ++ (k, a) ∷ [])) ≡ insert_entry eq (insert_all eq es (lefts_of p)) k (Left a)
  one_left es [] k a = refl
  one_left es (y ∷ p) k a = one_left (insert_entry eq es y.0 (Left y.1)) p k a

  keys_insert_there : {V : Type 0} (es : List (K × V)) (k : K) (v : V) → is_some (lookup (eq k) es) ≡ true → keys_of (insert_entry eq es k v) ≡ keys_of es
  keys_insert_there [] k v t = absurd (true≢false (sym t))
  keys_insert_there (e ∷ es) k v t = by_test (eq k e.0) (λ s. rw s refl) (λ f. rw f (ap (λ ks. e.0 ∷ ks) (keys_insert_there es k v (rw f at t))))

  keys_insert_new : {V : Type 0} (es : List (K × V)) (k : K) (v : V) → is_some (lookup (eq k) es) ≡ false → keys_of (insert_entry eq es k v) ≡ keys_of es ++ k ∷ []
  keys_insert_new [] k v n = refl
  keys_insert_new (e ∷ es) k v n = by_test (eq k e.0) (λ s. absurd (true≢false (rw s at n))) (λ f. rw f (ap (λ ks. e.0 ∷ ks) (keys_insert_new es k v (rw f at n))))

  lookup_insert : {V : Type 0} (j : K) (es : List (K × V)) (k : K) (v : V) → lookup (eq j) (insert_entry eq es k v) ≡ cond (eq j k) (Some v) (lookup (eq j) es)
  lookup_insert j [] k v = refl
  lookup_insert j (e ∷ es) k v =
      by_test (eq k e.0)
      (λ s.
      let same : eq j e.0 ≡ eq j k = laws.symm j e.0 ∙ sym (laws.congr k e.0 j s) ∙ laws.symm k j in
      by_test (eq j k) (λ t. rw (s, same, t) refl) (λ f. rw (s, same, f) refl))
      (λ f.
      by_test (eq j e.0)
      (λ t. let apart : eq j k ≡ false = laws.congr j e.0 k t ∙ laws.symm e.0 k ∙ f in rw (f, t, apart) refl)
      (λ a. rw (f, a) (lookup_insert j es k v)))

  -- one more entry is laid over a map
  overlay_step : {V : Type 0} (p ys : List (K × V)) (k : K) (v : V) (es : List (K × V)) → IsMapOverlay eq p ys es → lookup (eq k) ys ≡ None → IsMapOverlay eq p (ys ++ (k, v) ∷ []) (insert_entry eq es k v)
  overlay_step p ys k v es h none =
      let lacks : K → Bool = λ j. not (is_member eq (keys_of p) j) in
      let here : lookup (eq k) es ≡ lookup (eq k) p = h.values k ∙ ap (λ m. option_or m (lookup (eq k) p)) none in
      let seen : is_some (lookup (eq k) es) ≡ is_member eq (keys_of p) k = ap is_some here ∙ is_some-lookup (eq k) p in
      record {
        order =
            by_test (is_member eq (keys_of p) k)
            (λ t. keys_insert_there es k v (seen ∙ t) ∙ h.order ∙ ap (λ ks. keys_of p ++ ks) (sym (more_keys p ys k v [] [] ∙ rw t (append-nil (filter lacks (keys_of ys))))))
            (λ f.
            keys_insert_new es k v (seen ∙ f) ∙ ap (λ ks. ks ++ k ∷ []) h.order ∙ append_assoc (keys_of p) (filter lacks (keys_of ys)) (k ∷ [])
            ∙ ap (λ ks. keys_of p ++ ks) (sym (more_keys p ys k v [] [] ∙ rw f refl)));
        values = λ j.
            lookup_insert j es k v ∙
            by_test (eq j k)
            (λ t. let gone : lookup (eq j) ys ≡ None = lookup_alike j k t ys ∙ none in rw (lookup_push j ys k v, gone, t) refl)
            (λ f. rw (lookup_push j ys k v, f, or_none (lookup (eq j) ys)) (h.values j));
      }

  overlay_more : {V : Type 0} (p ys xs es : List (K × V)) → IsMapOverlay eq p ys es → IsDistinct eq (keys_of (ys ++ xs)) → IsMapOverlay eq p (ys ++ xs) (insert_all eq es xs)
  overlay_more p ys [] es h d = subst (λ l. IsMapOverlay eq p l es) (sym (append-nil ys)) h
  overlay_more p ys (x ∷ xs) es h d =
      let whole : (ys ++ x ∷ []) ++ xs ≡ ys ++ x ∷ xs = append_assoc ys (x ∷ []) xs in
      subst (λ l. IsMapOverlay eq p l (insert_all eq (insert_entry eq es x.0 x.1) xs)) whole
      (overlay_more p (ys ++ x ∷ []) xs (insert_entry eq es x.0 x.1) (overlay_step p ys x.0 x.1 es h (lookup_before ys x.0 x.1 xs d)) (subst (λ l. IsDistinct eq (keys_of l)) (sym whole) d))

  overlay_none : {V : Type 0} (p : List (K × V)) → IsMapOverlay eq p [] p
  overlay_none p = record { order = sym (append-nil (keys_of p)); values = λ k. refl }

  insert_apart : {V : Type 0} (es : List (K × V)) (k : K) (v : V) → lookup (eq k) es ≡ None → insert_entry eq es k v ≡ es ++ (k, v) ∷ []
  insert_apart [] k v n = refl
  insert_apart (e ∷ es) k v n =
      by_test (eq k e.0)
      (λ s. let bad : Some e.1 ≡ None = rw s at n in absurd (cc))
      (λ f. rw f (ap (λ l. e ∷ l) (insert_apart es k v (rw f at n))))

  all_apart : {V : Type 0} (es xs : List (K × V)) → IsDistinct eq (keys_of (es ++ xs)) → insert_all eq es xs ≡ es ++ xs
  all_apart es [] d = sym (append-nil es)
  all_apart es (x ∷ xs) d =
      let whole : (es ++ x ∷ []) ++ xs ≡ es ++ x ∷ xs = append_assoc es (x ∷ []) xs in
      ap (λ l. insert_all eq l xs) (insert_apart es x.0 x.1 (lookup_before es x.0 x.1 xs d)) ∙ all_apart (es ++ x ∷ []) xs (subst (λ l. IsDistinct eq (keys_of l)) (sym whole) d) ∙ whole

  -- once both maps were walked, where the rows were none
  pub join_made : {A B : Type 0} (p : List (K × A)) (q : List (K × B)) (none es fs : List (K × EitherOrBoth A B)) → none ≡ [] → es ≡ insert_all eq none (lefts_of p) → AddsRights eq A q es fs
      → IsDistinct eq (keys_of p) → IsDistinct eq (keys_of q) → IsMapJoin eq p q fs
  join_made {B = B} p q none es fs e made adds d f =
      let lefts : es ≡ lefts_of p = made ∙ ap (λ l. insert_all eq l (lefts_of p)) e ∙ all_apart [] (lefts_of p) (distinct_lefts B p d) in
      adds p f (subst (IsMapJoin eq p []) (sym lefts) (join_lefts B p))

  -- the same, of two iterators that give the entries of maps
  pub join_given : {A B : Type 0} (p l : List (K × A)) (q r : List (K × B)) (rows : List (K × EitherOrBoth A B)) → l ≡ p → GivesInOrder (K × A) → IsDistinct eq (keys_of p)
      → r ≡ q → GivesInOrder (K × B) → IsDistinct eq (keys_of q)
      → WholeRun (TakesFirst (λ x. x)) l (λ x. WholeRun (TakesFirst (λ y. y)) r (λ y. IsDistinct eq (keys_of x.items) → IsDistinct eq (keys_of y.items) → IsMapJoin eq x.items y.items rows))
      → IsMapJoin eq p q rows
  join_given p l q r rows a left d b right f made =
      let lefts : made.0.items ≡ p = (left made.0 (seen made.0.len)).4 made.2 ∙ made.1 ∙ a in
      let rest = made.3 in
      let rights : rest.0.items ≡ q = (right rest.0 (seen rest.0.len)).4 rest.2 ∙ rest.1 ∙ b in
      let of_lists = rest.3 (subst (λ x. IsDistinct eq (keys_of x)) (sym lefts) d) (subst (λ y. IsDistinct eq (keys_of y)) (sym rights) f) in
      subst (λ x. IsMapJoin eq x q rows) lefts (subst (λ y. IsMapJoin eq made.0.items y rows) rights of_lists)

  -- a map that took the entries of two maps in turn is the second laid over the first
  pub overlay_made : {V : Type 0} (p q es rows : List (K × V)) → IsDistinct eq (keys_of p) → IsDistinct eq (keys_of q) → es ≡ [] → rows ≡ insert_all eq (insert_all eq es p) q → IsMapOverlay eq p q rows
  overlay_made p q es rows d a e h =
      let first : insert_all eq es p ≡ p = ap (λ l. insert_all eq l p) e ∙ all_apart [] p d in
      subst (IsMapOverlay eq p q) (sym (h ∙ ap (λ l. insert_all eq l q) first)) (overlay_more p [] q p (overlay_none p) a)

pub parts_law : {K : Type 0} (eq : K → K → Bool) (A B : Type 0) → MapPartsLaw eq A B
parts_law {K = K} eq A B number agree n p q ws zs h j k =
    let one : (i : K) → eq k i ≡ true → nat_eq n (number i) ≡ nat_eq n (number k) = λ i t. ap (λ m. nat_eq n m) (sym (agree k i t)) in
    let left = lookup-filter-keys (eq k) (λ i. nat_eq n (number i)) (nat_eq n (number k)) one p in
    let right = lookup-filter-keys (eq k) (λ i. nat_eq n (number i)) (nat_eq n (number k)) one q in
    h.values k ∙ ap₂ from_places left right ∙ by_test (nat_eq n (number k)) (λ t. rw t (sym (j.values k))) (λ f. rw f refl)
