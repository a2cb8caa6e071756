-- The list that the loop of a join makes, and that it is the join.
use Rattle.std.proofs.Common.{◌≡◌, ◌∙◌, ◌⊎◌, ℕ, ◌+◌, ◌<◌, zero, suc, Bool, true, false, cond, List, [], ◌∷◌, ◌++◌, append_assoc, append-nil, length, get_or, map, All, Contains, Option, Some, None, arith, inl, inr, refl, sym, ap, subst, true≢false}
use Rattle.std.specs.Prelude.{⊤}
use Rattle.std.specs.Cmp.{IsTotalOrder, alike_right}
use Rattle.std.specs.List.{IsAllAdjacentAnswer}
use Rattle.std.specs.Map.{keys_of}
use Rattle.std.specs.Ordering.{is_eq, is_lt, match_ordering, ordering_reverse}
use Rattle.std.specs.declared.cmp.Ordering.{Ordering}
use Rattle.std.specs.declared.cmp.Ordering.TheVariants.{Less, Equal, Greater}
use Rattle.eob_both.specs.declared.either_or_both.EitherOrBoth.{EitherOrBoth}
use Rattle.eob_both.specs.declared.either_or_both.EitherOrBoth.TheVariants.{Left, Both, Right}
use Rattle.std.specs.Prelude.{IsTrue, ◌↔◌}
use Rattle.std.proofs.lemmas.List.{length-map}
use Rattle.std.proofs.Math.ListN.{get_or-map}
use Rattle.std.proofs.lemmas.List.Elements.{All-nil, All-cons, All-head, All-tail, Contains-get_or}
use Rattle.eob_both.specs.Places.{from_places}
use Rattle.eob_lists.specs.Join.{Rising, IsJoin, JoinTakes, value_under}

-- what is given where two values under one key meet
left_step : {A B : Type 0} (t : Bool) (a : A) (z : Option (EitherOrBoth A B)) (m : Option A) (n : Option B)
    → z ≡ from_places m n → (t ≡ true → n ≡ None) → cond t (Some (Left a)) z ≡ from_places (cond t (Some a) m) n
left_step true a z m n e absent = rw (absent refl) refl
left_step false a z m n e absent = e

right_step : {A B : Type 0} (t : Bool) (b : B) (z : Option (EitherOrBoth A B)) (m : Option A) (n : Option B)
    → z ≡ from_places m n → (t ≡ true → m ≡ None) → cond t (Some (Right b)) z ≡ from_places m (cond t (Some b) n)
right_step true b z m n e absent = rw (absent refl) refl
right_step false b z m n e absent = e

both_step : {A B : Type 0} (t : Bool) (a : A) (b : B) (z : Option (EitherOrBoth A B)) (m : Option A) (n : Option B)
    → z ≡ from_places m n → cond t (Some (Both a b)) z ≡ from_places (cond t (Some a) m) (cond t (Some b) n)
both_step true a b z m n e = refl
both_step false a b z m n e = e

pub is_Equal : (r : Ordering) → is_eq r ≡ true → r ≡ Equal
is_Equal Less h = absurd (true≢false (sym h))
is_Equal Equal h = refl
is_Equal Greater h = absurd (true≢false (sym h))

from_Greater : (r s : Ordering) → r ≡ ordering_reverse s → r ≡ Greater → s ≡ Less
from_Greater r Less e h = refl
from_Greater r Equal e h = absurd (true≢false (ap is_eq (sym e ∙ h)))
from_Greater r Greater e h = cc

pub by_order : {G : Type 0} (r : Ordering) → (r ≡ Less → G) → (r ≡ Equal → G) → (r ≡ Greater → G) → G
by_order Less f g h = f refl
by_order Equal f g h = g refl
by_order Greater f g h = h refl

none_some : {X : Type 0} {x : X} → None ≡ Some x → ⊥
none_some e = cc

not_some : {X : Type 0} (r : Option X) → ((x : X) → r ≡ Some x → ⊥) → r ≡ None
not_some None never = refl
not_some (Some x) never = absurd (never x refl)

some_same : {X : Type 0} {x y : X} → Some x ≡ Some y → x ≡ y
some_same e = cc

module _ {K : Type 0} (cmp : K → K → Ordering) where
  module _ {A B : Type 0} where
    -- the items before the left pair x, then those of x and of what follows it
    abbrev pub place : (K × A) → (List (K × B) → List (K × EitherOrBoth A B)) → List (K × B) → List (K × EitherOrBoth A B)
    place x after [] = (x.0, Left x.1) ∷ after []
    place x after (y ∷ ys) = match_ordering (cmp x.0 y.0) ((x.0, Left x.1) ∷ after (y ∷ ys)) ((x.0, Both x.1 y.1) ∷ after ys) ((y.0, Right y.1) ∷ place x after ys)

    -- the list that the loop makes of what is left of the two lists
    abbrev pub merge : List (K × A) → List (K × B) → List (K × EitherOrBoth A B)
    merge [] ys = map (λ y. (y.0, Right y.1)) ys
    merge (x ∷ xs) ys = place x (merge xs) ys

  -- P holds of the first key, and each key is less than the next
  abbrev pub Up : {V : Type 0} → (K → Type 0) → List (K × V) → Type 0
  Up P [] = ⊤
  Up P (x ∷ xs) = P x.0 × Up (λ k. cmp x.0 k ≡ Less) xs

  own_key : {V : Type 0} (xs : List (K × V)) (k : ℕ) (d : K × V) → k < length xs → Contains (keys_of xs) (get_or xs k d).0
  own_key xs k d h =
      let l : k < length (keys_of xs) = rw length-map h in
      subst (Contains (keys_of xs)) (get_or-map (λ e. e.0) xs k d) (Contains-get_or (keys_of xs) k d.0 l)

  up_after : {V : Type 0} (x : K × V) (xs : List (K × V)) → Rising cmp (x ∷ xs) → Up (λ k. cmp x.0 k ≡ Less) xs
  unfolding Rising
  up_after x [] up = tt
  up_after x (y ∷ ys) up = (up 0 x (omega arith), up_after y ys (λ k d h. let e : suc k + 1 ≡ suc (k + 1) = omega arith in rw e at (up (suc k) d (omega arith))))

  pub up : {V : Type 0} (xs : List (K × V)) → Rising cmp xs → Up (λ k. ⊤) xs
  up [] h = tt
  up (x ∷ xs) h = (tt, up_after x xs h)

  pub rising : {V : Type 0} (P : K → Type 0) (xs : List (K × V)) → Up P xs → Rising cmp xs
  unfolding Rising
  rising P [] h k d b = absurd (omega (arith, b))
  rising P (x ∷ []) h k d b = absurd (omega (arith, b))
  rising P (x ∷ y ∷ ys) h zero d b = h.1.0
  rising P (x ∷ y ∷ ys) h (suc k) d b =
      let e : suc k + 1 ≡ suc (k + 1) = omega arith in
      rw e (rising (λ j. cmp x.0 j ≡ Less) (y ∷ ys) h.1 k d (omega (arith, b)))

  pub up_weaker : {V : Type 0} (P Q : K → Type 0) → ((k : K) → P k → Q k) → (xs : List (K × V)) → Up P xs → Up Q xs
  up_weaker P Q f [] h = tt
  up_weaker P Q f (x ∷ xs) h = (f x.0 h.0, h.1)

  module _ (o : IsTotalOrder cmp) where
    pub flipped_order : (x y : K) → cmp x y ≡ Greater → cmp y x ≡ Less
    flipped_order x y h = from_Greater (cmp x y) (cmp y x) (o.antisymm x y) h

    -- a key that is less than each key of a list has no value in it
    pub absent : {V : Type 0} (k : K) (xs : List (K × V)) → Up (λ j. cmp k j ≡ Less) xs → value_under cmp xs k ≡ None
    absent k [] h = refl
    absent k (x ∷ xs) h = rw h.0 (absent k xs (up_weaker (λ j. cmp x.0 j ≡ Less) (λ j. cmp k j ≡ Less) (λ j l. o.trans k x.0 j h.0 l) xs h.1))

    -- nor has one that is equal to such a key
    pub absent_alike : {V : Type 0} (k j : K) → is_eq (cmp k j) ≡ true → (xs : List (K × V)) → Up (λ i. cmp j i ≡ Less) xs → value_under cmp xs k ≡ None
    absent_alike k j e xs h = absent k xs (up_weaker (λ i. cmp j i ≡ Less) (λ i. cmp k i ≡ Less) (λ i l. o.congr k j i (is_Equal (cmp k j) e) ∙ l) xs h)

    less_on : {V : Type 0} (x y : K) → cmp x y ≡ Less → (ys : List (K × V)) → Up (λ k. cmp y k ≡ Less) ys → Up (λ k. cmp x k ≡ Less) ys
    less_on x y l ys h = up_weaker (λ k. cmp y k ≡ Less) (λ k. cmp x k ≡ Less) (λ k m. o.trans x y k l m) ys h

    pub alike_on : {V : Type 0} (x y : K) → cmp x y ≡ Equal → (ys : List (K × V)) → Up (λ k. cmp y k ≡ Less) ys → Up (λ k. cmp x k ≡ Less) ys
    alike_on x y e ys h = up_weaker (λ k. cmp y k ≡ Less) (λ k. cmp x k ≡ Less) (λ k m. o.congr x y k e ∙ m) ys h

    module _ (A : Type 0) {B : Type 0} where
      rights_up : (P : K → Type 0) (ys : List (K × B)) → Up P ys → Up P (merge {A = A} [] ys)
      rights_up P [] h = tt
      rights_up P (y ∷ ys) h = (h.0, rights_up (λ k. cmp y.0 k ≡ Less) ys h.1)

      rights_values : (k : K) (ys : List (K × B)) → value_under cmp (merge {A = A} [] ys) k ≡ from_places None (value_under cmp ys k)
      rights_values k [] = refl
      rights_values k (y ∷ ys) = right_step (is_eq (cmp k y.0)) y.1 _ None (value_under cmp ys k) (rights_values k ys) (λ t. refl)

      -- each key of the list comes from one of the two
      rights_keys : (R : K → Type 0) (ys : List (K × B)) → All (λ y. R y.0) ys → All (λ z. R z.0) (merge {A = A} [] ys)
      rights_keys R [] h = All-nil (λ z. R z.0)
      rights_keys R (y ∷ ys) h = All-cons (λ z. R z.0) (y.0, Right y.1) (merge [] ys) (All-head (λ z. R z.0) y ys h) (rights_keys R ys (All-tail (λ z. R z.0) y ys h))

    module _ {A B : Type 0} where
      place_up : (x : K × A) (after : List (K × B) → List (K × EitherOrBoth A B))
          → ((ys : List (K × B)) → Up (λ k. cmp x.0 k ≡ Less) ys → Up (λ k. cmp x.0 k ≡ Less) (after ys))
          → (ys : List (K × B)) (P : K → Type 0) → P x.0 → Up P ys → Up P (place x after ys)
      place_up x after go [] P p h = (p, go [] tt)
      place_up x after go (y ∷ ys) P p h =
          by_order (cmp x.0 y.0)
          (λ e. rw e (p, go (y ∷ ys) (e, h.1)))
          (λ e. rw e (p, go ys (alike_on x.0 y.0 e ys h.1)))
          (λ e. rw e (h.0, place_up x after go ys (λ k. cmp y.0 k ≡ Less) (flipped_order x.0 y.0 e) h.1))

      pub merge_up : (xs : List (K × A)) (ys : List (K × B)) (P : K → Type 0) → Up P xs → Up P ys → Up P (merge xs ys)
      merge_up [] ys P g h = rights_up A P ys h
      merge_up (x ∷ xs) ys P g h = place_up x (merge xs) (λ zs k. merge_up xs zs (λ j. cmp x.0 j ≡ Less) g.1 k) ys P g.0 h

      place_values : (k : K) (x : K × A) (xs : List (K × A)) → Up (λ j. cmp x.0 j ≡ Less) xs
          → ((ys : List (K × B)) → Up (λ j. ⊤) ys → value_under cmp (merge xs ys) k ≡ from_places (value_under cmp xs k) (value_under cmp ys k))
          → (ys : List (K × B)) → Up (λ j. ⊤) ys
          → value_under cmp (merge (x ∷ xs) ys) k ≡ from_places (value_under cmp (x ∷ xs) k) (value_under cmp ys k)
      place_values k x xs g go [] h = left_step (is_eq (cmp k x.0)) x.1 _ (value_under cmp xs k) None (go [] tt) (λ t. refl)
      place_values k x xs g go (y ∷ ys) h =
          let rest : Up (λ j. ⊤) ys = up_weaker (λ j. cmp y.0 j ≡ Less) (λ j. ⊤) (λ j l. tt) ys h.1 in
          by_order (cmp x.0 y.0)
          (λ e. rw e (left_step (is_eq (cmp k x.0)) x.1 _ (value_under cmp xs k) (value_under cmp (y ∷ ys) k) (go (y ∷ ys) h) (λ t. absent_alike k x.0 t (y ∷ ys) (e, h.1))))
          (λ e. rw (e, ← alike_right o x.0 y.0 k e) (both_step (is_eq (cmp k x.0)) x.1 y.1 _ (value_under cmp xs k) (value_under cmp ys k) (go ys rest)))
          (λ e. rw e (right_step (is_eq (cmp k y.0)) y.1 _ (value_under cmp (x ∷ xs) k) (value_under cmp ys k) (place_values k x xs g go ys rest) (λ t. absent_alike k y.0 t (x ∷ xs) (flipped_order x.0 y.0 e, g))))

      pub merge_values : (k : K) (xs : List (K × A)) (ys : List (K × B)) → Up (λ j. ⊤) xs → Up (λ j. ⊤) ys
          → value_under cmp (merge xs ys) k ≡ from_places (value_under cmp xs k) (value_under cmp ys k)
      merge_values k [] ys g h = rights_values A k ys
      merge_values k (x ∷ xs) ys g h =
          let rest : Up (λ j. ⊤) xs = up_weaker (λ j. cmp x.0 j ≡ Less) (λ j. ⊤) (λ j l. tt) xs g.1 in
          place_values k x xs g.1 (λ zs l. merge_values k xs zs rest l) ys h

      place_keys : (R : K → Type 0) (x : K × A) → R x.0 → (after : List (K × B) → List (K × EitherOrBoth A B))
          → ((ys : List (K × B)) → All (λ y. R y.0) ys → All (λ z. R z.0) (after ys))
          → (ys : List (K × B)) → All (λ y. R y.0) ys → All (λ z. R z.0) (place x after ys)
      place_keys R x r after go [] h = All-cons (λ z. R z.0) (x.0, Left x.1) (after []) r (go [] h)
      place_keys R x r after go (y ∷ ys) h =
          let here : R y.0 = All-head (λ z. R z.0) y ys h in
          let rest : All (λ z. R z.0) ys = All-tail (λ z. R z.0) y ys h in
          by_order (cmp x.0 y.0)
          (λ e. rw e (All-cons (λ z. R z.0) (x.0, Left x.1) (after (y ∷ ys)) r (go (y ∷ ys) h)))
          (λ e. rw e (All-cons (λ z. R z.0) (x.0, Both x.1 y.1) (after ys) r (go ys rest)))
          (λ e. rw e (All-cons (λ z. R z.0) (y.0, Right y.1) (place x after ys) here (place_keys R x r after go ys rest)))

      pub merge_keys : (R : K → Type 0) (xs : List (K × A)) (ys : List (K × B)) → All (λ x. R x.0) xs → All (λ y. R y.0) ys → All (λ z. R z.0) (merge xs ys)
      merge_keys R [] ys g h = rights_keys A R ys h
      merge_keys R (x ∷ xs) ys g h = place_keys R x (All-head (λ z. R z.0) x xs g) (merge xs) (λ zs k. merge_keys R xs zs (All-tail (λ z. R z.0) x xs g) k) ys h

      pub IsJoin-merge : (p : List (K × A)) (q : List (K × B)) → Rising cmp p → Rising cmp q → IsJoin cmp p q (merge p q)
      IsJoin-merge p q g h = record {
        rises = rising (λ k. ⊤) (merge p q) (merge_up p q (λ k. ⊤) (up p g) (up q h));
        values = λ k. merge_values k p q (up p g) (up q h);
        keys = merge_keys (λ k. Contains (keys_of p) k ⊎ Contains (keys_of q) k) p q (λ k d l. inl (own_key p k d l)) (λ k d l. inr (own_key q k d l));
      }

      -- where a join takes nothing, the loop makes nothing more
      pub takes_none : (xs : List (K × A)) (ys : List (K × B)) (p : List (K × A)) (q : List (K × B)) → JoinTakes cmp xs ys None p q → merge xs ys ≡ []
      takes_none [] [] p q h = refl
      takes_none (x ∷ xs) [] p q h = absurd (none_some h.0)
      takes_none [] (y ∷ ys) p q h = absurd (none_some h.0)
      takes_none (x ∷ xs) (y ∷ ys) p q h =
          by_order (cmp x.0 y.0)
          (λ e. let s = rw e at h in absurd (none_some s.0))
          (λ e. let s = rw e at h in absurd (none_some s.0))
          (λ e. let s = rw e at h in absurd (none_some s.0))

      -- what it takes is the first item that the loop makes, and a pair of one list at least is gone
      pub takes_some : (xs : List (K × A)) (ys : List (K × B)) (z : K × EitherOrBoth A B) (p : List (K × A)) (q : List (K × B)) → JoinTakes cmp xs ys (Some z) p q
          → (merge xs ys ≡ z ∷ merge p q) × (length p + length q < length xs + length ys)
      takes_some [] [] z p q h = absurd (none_some (sym h.0))
      takes_some (x ∷ xs) [] z p q h = rw (h.1, h.2) (ap (λ k. k ∷ merge xs []) (sym (some_same h.0)), omega arith)
      takes_some [] (y ∷ ys) z p q h = rw (h.1, h.2) (ap (λ k. k ∷ merge [] ys) (sym (some_same h.0)), omega arith)
      takes_some (x ∷ xs) (y ∷ ys) z p q h =
          by_order (cmp x.0 y.0)
          (λ e. let s = rw e at h in rw (e, s.1, s.2) (ap (λ k. k ∷ merge xs (y ∷ ys)) (sym (some_same s.0)), omega arith))
          (λ e. let s = rw e at h in rw (e, s.1, s.2) (ap (λ k. k ∷ merge xs ys) (sym (some_same s.0)), omega arith))
          (λ e. let s = rw e at h in rw (e, s.1, s.2) (ap (λ k. k ∷ merge (x ∷ xs) ys) (sym (some_same s.0)), omega arith))

      -- what is made and what is still to be made stay one list
      pub join_grows : (made later whole : List (K × EitherOrBoth A B)) (xs : List (K × A)) (ys : List (K × B)) (r : Option (K × EitherOrBoth A B)) (z : K × EitherOrBoth A B) (p : List (K × A)) (q : List (K × B))
          → r ≡ Some z → JoinTakes cmp xs ys r p q → later ≡ made ++ z ∷ [] → made ++ merge xs ys ≡ whole → later ++ merge p q ≡ whole
      join_grows made later whole xs ys r z p q is takes e h =
          let one = takes_some xs ys z p q (subst (λ o. JoinTakes cmp xs ys o p q) is takes) in
          ap (λ l. l ++ merge p q) e ∙ append_assoc made (z ∷ []) (merge p q) ∙ ap (λ l. made ++ l) (sym one.0) ∙ h

      -- where nothing more is taken, what is made is the join
      pub join_made : (p : List (K × A)) (q : List (K × B)) → Rising cmp p → Rising cmp q → (made : List (K × EitherOrBoth A B)) (xs : List (K × A)) (ys : List (K × B)) (r : Option (K × EitherOrBoth A B)) (m : List (K × A)) (n : List (K × B))
          → ((z : K × EitherOrBoth A B) → r ≡ Some z → ⊥) → JoinTakes cmp xs ys r m n → made ++ merge xs ys ≡ merge p q → IsJoin cmp p q made
      join_made p q g h made xs ys r m n never takes e =
          let none = takes_none xs ys m n (subst (λ o. JoinTakes cmp xs ys o m n) (not_some r never) takes) in
          let whole : made ≡ merge p q = sym (append-nil made) ∙ ap (λ l. made ++ l) (sym none) ∙ e in
          subst (IsJoin cmp p q) (sym whole) (IsJoin-merge p q g h)

is_Less : (r : Ordering) → true ≡ is_lt r → r ≡ Less
is_Less Less h = refl
is_Less Equal h = absurd (true≢false h)
is_Less Greater h = absurd (true≢false h)

-- what the test of each pair of neighbours says of the list
pub rises_answer : {K V : Type 0} (cmp : K → K → Ordering) (xs : List (K × V)) (r : Bool) → IsAllAdjacentAnswer (λ x y b. b ≡ is_lt (cmp x.0 y.0)) xs r → IsTrue r ↔ Rising cmp xs
unfolding Rising
rises_answer cmp xs true h = (λ t k d l. is_Less _ (h k d l), λ up. refl)
rises_answer cmp [] false h = absurd (omega (arith, h.1))
rises_answer cmp (x ∷ xs) false h = (λ t. absurd (true≢false (sym t)), λ up. absurd (true≢false (sym (h.2 x ∙ ap is_lt (up h.0 x h.1)))))
