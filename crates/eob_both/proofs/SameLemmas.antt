-- Contents with no key twice, collected again: they are the same.
use Rattle.std.proofs.Common.{◌≡◌, Bool, true, false, not, cond, filter, List, [], ◌∷◌, Option, Some, None, is_some, unwrap_or, refl, ap, subst, ◌∙◌}
use Rattle.std.proofs.lemmas.List.{length-map}
use Rattle.std.proofs.lemmas.Cmp.{eq_by_cmp_equiv}
use Rattle.std.proofs.lemmas.Map.Keys.{IsDistinct-from_sorted, IsDistinct-head, IsDistinct-tail}
use Rattle.std.proofs.lemmas.Map.Made.{distinct_count-from_IsDistinct}
use Rattle.std.specs.Cmp.{IsEquivalence, IsTotalOrder}
use Rattle.std.specs.List.{AllByRecursion, IsDistinct}
use Rattle.std.specs.List.Sorted.{IsStrictlySortedBy}
use Rattle.std.specs.Map.{keys_of, lookup}
use Rattle.std.specs.Option.{option_or}
use Rattle.std.specs.Ordering.{eq_by_cmp}
use Rattle.std.specs.declared.cmp.Ordering.{Ordering}
use Rattle.eob_both.specs.declared.either_or_both.EitherOrBoth.{EitherOrBoth}
use Rattle.eob_both.specs.declared.either_or_both.EitherOrBoth.TheVariants.{Left, Both, Right}
use Rattle.eob_both.specs.Collector.{Collects, contents_at}
use Rattle.eob_both.specs.Places.{left_place, right_place, map_places}
use Rattle.eob_both.specs.Sides.{lefts, rights, pair_of}
use Rattle.eob_both.specs.Contents.{first_items, first_list, last_value, AreFirstItems, AreMembers, AreRisingMembers, AreSameMembers, AreSameRisingMembers, IsFirstList, IsLastMap, IsRisingMap, IsSameMap, IsSameRisingMap}
use Rattle.eob_both.proofs.ContentLemmas.{last_value-cons}

module _ {K : Type 0} (eq : K → K → Bool) (laws : IsEquivalence eq) where
  all_pass : (x : K) (xs : List K) → AllByRecursion (λ y. eq x y ≡ false) xs → filter (λ y. not (eq x y)) xs ≡ xs
  all_pass x [] a = refl
  all_pass x (y ∷ xs) a = rw a.0 (ap (λ l. y ∷ l) (all_pass x xs a.1))

  first_items-distinct : (xs : List K) → IsDistinct eq xs → first_items eq xs ≡ xs
  first_items-distinct [] d = refl
  first_items-distinct (x ∷ xs) d = ap (λ l. x ∷ filter (λ y. not (eq x y)) l) (first_items-distinct xs (IsDistinct-tail eq x xs d)) ∙ ap (λ l. x ∷ l) (all_pass x xs (IsDistinct-head eq x xs d))

  pub same_members : (xs ks : List K) → IsDistinct eq xs → AreMembers eq xs ks → AreSameMembers eq xs ks
  same_members xs ks d h = record { once = h.once; same = h.same; count = h.count ∙ distinct_count-from_IsDistinct laws xs d }

  pub same_items : (xs ks : List K) → IsDistinct eq xs → AreFirstItems eq xs ks → ks ≡ xs
  same_items xs ks d h = h.order ∙ first_items-distinct xs d

module _ {K V : Type 0} (eq : K → K → Bool) (laws : IsEquivalence eq) where
  absent : (es : List (K × V)) (k q : K) → AllByRecursion (λ y. eq k y ≡ false) (keys_of es) → eq q k ≡ true → lookup (eq q) es ≡ None
  absent [] k q a h = refl
  absent (e ∷ es) k q a h = let f : eq q e.0 ≡ false = laws.congr q k e.0 h ∙ a.0 in rw f (absent es k q a.1 h)

  -- where no key comes twice, the last place of a key is its only one
  pub last_value-distinct : (es : List (K × V)) (q : K) → IsDistinct eq (keys_of es) → last_value eq es q ≡ lookup (eq q) es
  last_value-distinct [] q d = refl
  last_value-distinct (e ∷ es) q d =
      last_value-cons eq laws e es q ∙ by (eq q e.0) refl (last_value-distinct es q (IsDistinct-tail eq e.0 (keys_of es) d)) (λ h. absent es e.0 q (IsDistinct-head eq e.0 (keys_of es) d) h)
    where
      or_none : (o : Option V) → option_or o None ≡ o
      or_none None = refl
      or_none (Some v) = refl

      by : (b : Bool) → eq q e.0 ≡ b → last_value eq es q ≡ lookup (eq q) es → (eq q e.0 ≡ true → lookup (eq q) es ≡ None)
          → option_or (last_value eq es q) (cond (eq q e.0) (Some e.1) None) ≡ lookup (eq q) (e ∷ es)
      by true h r a = rw (h, r, a h) refl
      by false h r a = rw (h, r) (or_none (lookup (eq q) es))

  all_keys_pass : (k : K) (es : List (K × V)) → AllByRecursion (λ y. eq k y ≡ false) (keys_of es) → filter (λ f. not (eq k f.0)) es ≡ es
  all_keys_pass k [] a = refl
  all_keys_pass k (e ∷ es) a = rw a.0 (ap (λ l. e ∷ l) (all_keys_pass k es a.1))

  first_list-distinct : (es : List (K × V)) → IsDistinct eq (keys_of es) → first_list eq es ≡ es
  first_list-distinct [] d = refl
  first_list-distinct (e ∷ es) d =
      let rest = IsDistinct-tail eq e.0 (keys_of es) d in
      let others = IsDistinct-head eq e.0 (keys_of es) d in
      let none : last_value eq es e.0 ≡ None = last_value-distinct es e.0 rest ∙ absent es e.0 e.0 others (laws.refl e.0) in
      ap (λ o. (e.0, unwrap_or o e.1) ∷ filter (λ f. not (eq e.0 f.0)) (first_list eq es)) none ∙ ap (λ l. e ∷ l) (ap (filter (λ f. not (eq e.0 f.0))) (first_list-distinct es rest) ∙ all_keys_pass e.0 es others)

  pub same_map : (es fs : List (K × V)) → IsDistinct eq (keys_of es) → IsLastMap eq es fs → IsSameMap eq es fs
  same_map es fs d h = record { once = h.once; same = λ k. h.last k ∙ last_value-distinct es k d; count = h.count ∙ distinct_count-from_IsDistinct laws (keys_of es) d ∙ length-map es (λ (e : K × V). e.0) }

  pub same_entries : (es fs : List (K × V)) → IsDistinct eq (keys_of es) → IsFirstList eq es fs → fs ≡ es
  same_entries es fs d h = h.entries ∙ first_list-distinct es d

module _ {K : Type 0} (cmp : K → K → Ordering) (total : IsTotalOrder cmp) where
  tied : IsEquivalence (eq_by_cmp cmp)
  tied = eq_by_cmp_equiv total

  pub same_rising_members : (xs ks : List K) → IsStrictlySortedBy cmp xs → AreRisingMembers cmp xs ks → AreSameRisingMembers cmp xs ks
  same_rising_members xs ks d h = record { rising = h.rising; same = h.same; count = h.count ∙ distinct_count-from_IsDistinct tied xs (IsDistinct-from_sorted cmp xs d) }

  pub same_rising_map : {V : Type 0} (es fs : List (K × V)) → IsStrictlySortedBy cmp (keys_of es) → IsRisingMap cmp es fs → IsSameRisingMap cmp es fs
  same_rising_map {V} es fs d h =
      let once = IsDistinct-from_sorted cmp (keys_of es) d in
      record { rising = h.rising; same = λ k. h.last k ∙ last_value-distinct (eq_by_cmp cmp) tied es k once; count = h.count ∙ distinct_count-from_IsDistinct tied (keys_of es) once ∙ length-map es (λ (e : K × V). e.0) }

-- the pair that was collected from lists with given sides, where what is held of these sides says more of the contents
pub recollected : {A B C D : Type 0} (c : C → List A) (d : D → List B) (P P' : List A → List A → Type 0) (Q Q' : List B → List B → Type 0) (xs : List (EitherOrBoth A B)) (ps : List A) (qs : List B) (v : EitherOrBoth C D)
    → lefts xs ≡ ps → rights xs ≡ qs → ((held : List A) → P ps held → P' ps held) → ((held : List B) → Q qs held → Q' qs held) → Collects c d P Q (lefts xs) (rights xs) v → Collects c d P' Q' ps qs v
recollected c d P P' Q Q' xs ps qs v e f left right h = record {
  left = left (contents_at c (left_place v)) (subst (λ l. P l (contents_at c (left_place v))) e h.left);
  right = right (contents_at d (right_place v)) (subst (λ l. Q l (contents_at d (right_place v))) f h.right);
  has_left = h.has_left ∙ (λ i. is_some (left_place (pair_of (e i) (f i))));
  has_right = h.has_right ∙ (λ i. is_some (right_place (pair_of (e i) (f i))));
}

-- where the contents are the lists themselves, the pair is the one that the lists make
pub pair_of_contents : {A B C D : Type 0} (c : C → List A) (d : D → List B) (ps : List A) (qs : List B) (v : EitherOrBoth C D) → Collects c d (λ xs held. held ≡ xs) (λ xs held. held ≡ xs) ps qs v → map_places c d v ≡ pair_of ps qs
pair_of_contents {A} {B} {C} {D} c d ps qs v h = by v ps qs h.left h.right h.has_left h.has_right
  where
    by : (w : EitherOrBoth C D) (xs : List A) (ys : List B) → contents_at c (left_place w) ≡ xs → contents_at d (right_place w) ≡ ys → is_some (left_place w) ≡ is_some (left_place (pair_of xs ys)) → is_some (right_place w) ≡ is_some (right_place (pair_of xs ys)) → map_places c d w ≡ pair_of xs ys
    by (Left x) [] [] l r p q = cc
    by (Left x) [] (y ∷ ys) l r p q = cc
    by (Left x) (z ∷ zs) [] l r p q = ap (λ m. Left m) l
    by (Left x) (z ∷ zs) (y ∷ ys) l r p q = cc
    by (Both x y) [] [] l r p q = (λ i. Both (l i) (r i))
    by (Both x y) [] (b ∷ ys) l r p q = cc
    by (Both x y) (a ∷ xs) [] l r p q = cc
    by (Both x y) (a ∷ xs) (b ∷ ys) l r p q = (λ i. Both (l i) (r i))
    by (Right y) [] [] l r p q = cc
    by (Right y) [] (b ∷ ys) l r p q = ap (λ m. Right m) r
    by (Right y) (a ∷ xs) [] l r p q = cc
    by (Right y) (a ∷ xs) (b ∷ ys) l r p q = cc
