-- What a walk over references gives: read from runs of what it walks over, and from the lists that those show.
use Rattle.std.proofs.Common.{◌≡◌, ◌∙◌, ℕ, ◌+◌, zero, suc, Bool, true, cond, List, [], ◌∷◌, ◌++◌, map, All, option_map, Option, Some, None, append-nil, arith, refl, sym, ap, ap₂, subst}
use Rattle.std.proofs.iter.runs.Made.{at-is, took}
use Rattle.std.proofs.lemmas.List.{length-append, length-map}
use Rattle.std.proofs.lemmas.List.Elements.{All-head, All-tail}
use Rattle.std.proofs.lemmas.List.Sums.{sum_by-cons}
use Rattle.std.specs.Borrow.{Bor}
use Rattle.std.specs.Cmp.{IsTotalOrder}
use Rattle.std.specs.Iterator.{Yields, YieldsFirstBy}
use Rattle.std.specs.Iterator.Runs.{Run, SomeRun}
use Rattle.std.specs.List.{slice_get}
use Rattle.std.specs.Map.Iter.{deref_pair}
use Rattle.std.specs.Option.{option_zip}
use Rattle.std.specs.Prelude.{⊤, IfSome, count_by, is_none, is_some}
use Rattle.std.specs.declared.cmp.Ordering.{Ordering}
use Rattle.eob_both.specs.declared.either_or_both.EitherOrBoth.{EitherOrBoth}
use Rattle.eob_both.specs.declared.either_or_both.EitherOrBoth.TheVariants.{Left, Both, Right}
use Rattle.eob_both.specs.Places.{left_place, right_place, map_places}
use Rattle.eob_lists.specs.declared.join.walk.JoinedPairs.{JoinedPairs}
use Rattle.eob_lists.specs.Join.{Rising, IsJoin, value_under}
use Rattle.eob_lists.specs.JoinLaws.{HasJoinCounts, deref_joined, shared_keys}
use Rattle.eob_lists.specs.OuterJoin.{BeginsJoin, BeginsJoinLaw, HoldsFirsts, IsJoinRun, IsShownJoinRun, ShowsJoin, ShowsPlaces, StepsFrom, join_steps}
use Rattle.eob_lists.proofs.JoinLemmas.{join_counts, join_length, join_places}
use Rattle.eob_lists.proofs.MergeLemmas.{IsJoin-merge, Up, by_order, merge, rising, up}
use Rattle.eob_lists.proofs.OuterJoinLemmas.{both_ended, some_same}
use Rattle.eob_lists.proofs.RisingLemmas.{shown_rises, shown_join}

module _ {W S T K A B : Type 0} {joins : W → Option (Bor K × EitherOrBoth (Bor A) (Bor B)) → W → Type 0} (cmp : K → K → Ordering) where
  -- a run of a join of references, read as what they show
  pub shown_run : {firsts : S → Option (Bor K × Bor A) → S → Type 0} {seconds : T → Option (Bor K × Bor B) → T → Type 0} (p : Run joins) (s : S) (t : T)
      → SomeRun firsts s (λ a. SomeRun seconds t (λ b. IsJoinRun (λ j k. cmp j.now k.now) p a b)) → SomeRun firsts s (λ a. SomeRun seconds t (λ b. IsShownJoinRun cmp p a b))
  shown_run p s t h =
      let a = h.0 in
      let b = h.2.0 in
      let is = h.2.2 in
      (a, h.1, (b, h.2.1, (is.0, is.1, is.2, is.3, λ up_x up_y. shown_join cmp A B a.items b.items p.items (is.4 (shown_rises cmp A a.items up_x) (shown_rises cmp B b.items up_y)))))

-- a beginning of a join, from the rows after it, and what it says
begins : {K A B : Type 0} (cmp : K → K → Ordering) (xs : List (K × A)) (ys : List (K × B)) (zs rest : List (K × EitherOrBoth A B)) → IsJoin cmp xs ys (zs ++ rest) → BeginsJoin cmp xs ys zs
unfolding BeginsJoin
begins cmp xs ys zs rest is = (rest, is)

pub begins_join : {K : Type 0} (cmp : K → K → Ordering) (A B : Type 0) → BeginsJoinLaw cmp A B
unfolding BeginsJoin
begins_join cmp A B xs ys zs = (λ h. h, λ h. h)

-- what a side has still to give: the item that it holds, and then what is left of its iterator
module _ {S A X : Type 0} (view : A → X) (rest : S → List X) where
  abbrev pub side_left : Option A → S → List X
  side_left None s = []
  side_left (Some x) s = view x ∷ rest s

  -- a call of the iterator takes nothing from it
  pub side_taken : (s t : S) (o : Option A) → YieldsFirstBy view rest s o t → rest s ≡ side_left o t
  side_taken s t None e = e.0
  side_taken s t (Some x) e = e

-- a beginning of a strictly increasing list is one too
up_before : {K V : Type 0} (cmp : K → K → Ordering) (P : K → Type 0) (xs ys : List (K × V)) → Up cmp P (xs ++ ys) → Up cmp P xs
up_before cmp P [] ys h = tt
up_before cmp P (x ∷ xs) ys h = (h.0, up_before cmp _ xs ys h.1)

-- a test of each row reads the same from what the row shows
count_shown : {K A B : Type 0} (f : Bor K × EitherOrBoth (Bor A) (Bor B) → Bool) (g : K × EitherOrBoth A B → Bool) → ((z : Bor K × EitherOrBoth (Bor A) (Bor B)) → f z ≡ g (deref_joined z))
    → (zs : List (Bor K × EitherOrBoth (Bor A) (Bor B))) → count_by f zs ≡ count_by g (map deref_joined zs)
count_shown f g h [] = refl
count_shown f g h (z ∷ zs) =
    sum_by-cons (λ x. cond (f x) 1 0) z zs ∙ ap₂ (λ m n. m + n) (ap (λ b. cond b 1 0) (h z)) (count_shown f g h zs) ∙ sym (sum_by-cons (λ x. cond (g x) 1 0) (deref_joined z) (map deref_joined zs))

module _ {L R T U : Type 0} (f : L → T) (g : R → U) where
  left_shown : (v : EitherOrBoth L R) → left_place (map_places f g v) ≡ option_map f (left_place v)
  left_shown (Left l) = refl
  left_shown (Both l r) = refl
  left_shown (Right r) = refl

  right_shown : (v : EitherOrBoth L R) → right_place (map_places f g v) ≡ option_map g (right_place v)
  right_shown (Left l) = refl
  right_shown (Both l r) = refl
  right_shown (Right r) = refl

  lone_left_shown : (v : EitherOrBoth L R) → is_none (right_place v) ≡ is_none (right_place (map_places f g v))
  lone_left_shown (Left l) = refl
  lone_left_shown (Both l r) = refl
  lone_left_shown (Right r) = refl

  lone_right_shown : (v : EitherOrBoth L R) → is_none (left_place v) ≡ is_none (left_place (map_places f g v))
  lone_right_shown (Left l) = refl
  lone_right_shown (Both l r) = refl
  lone_right_shown (Right r) = refl

  both_shown : (v : EitherOrBoth L R) → is_some (option_zip (left_place v) (right_place v)) ≡ is_some (option_zip (left_place (map_places f g v)) (right_place (map_places f g v)))
  both_shown (Left l) = refl
  both_shown (Both l r) = refl
  both_shown (Right r) = refl

module _ {K A B : Type 0} (cmp : K → K → Ordering) where
  counts_shown : (p : List (K × A)) (q : List (K × B)) (zs : List (Bor K × EitherOrBoth (Bor A) (Bor B))) → HasJoinCounts cmp p q (map deref_joined zs) → HasJoinCounts cmp p q zs
  counts_shown p q zs h =
      let f : Bor A → A = λ a. a.now in
      let g : Bor B → B = λ b. b.now in
      let lone = count_shown (λ (z : Bor K × EitherOrBoth (Bor A) (Bor B)). is_none (right_place z.1)) (λ (z : K × EitherOrBoth A B). is_none (right_place z.1)) (λ z. lone_left_shown f g z.1) zs in
      let other = count_shown (λ (z : Bor K × EitherOrBoth (Bor A) (Bor B)). is_none (left_place z.1)) (λ (z : K × EitherOrBoth A B). is_none (left_place z.1)) (λ z. lone_right_shown f g z.1) zs in
      let both = count_shown (λ (z : Bor K × EitherOrBoth (Bor A) (Bor B)). is_some (option_zip (left_place z.1) (right_place z.1))) (λ (z : K × EitherOrBoth A B). is_some (option_zip (left_place z.1) (right_place z.1))) (λ z. both_shown f g z.1) zs in
      (ap (λ n. n + shared_keys cmp p q) lone ∙ h.0, ap (λ n. n + shared_keys cmp p q) other ∙ h.1, both ∙ h.2)

  abbrev Places : List (K × A) → List (K × B) → K × EitherOrBoth A B → Type 0
  Places p q z = (left_place z.1 ≡ value_under cmp p z.0) × (right_place z.1 ≡ value_under cmp q z.0)

  -- the places of each row, at each index
  places_at : (p : List (K × A)) (q : List (K × B)) (zs : List (Bor K × EitherOrBoth (Bor A) (Bor B))) (rest : List (K × EitherOrBoth A B)) → All (Places p q) (map deref_joined zs ++ rest)
      → (k : ℕ) → IfSome (slice_get zs k) (ShowsPlaces cmp p q)
  places_at p q [] rest h k = tt
  places_at p q (z ∷ zs) rest h zero =
      let e = All-head (Places p q) (deref_joined z) (map deref_joined zs ++ rest) h in
      (sym (left_shown (λ (a : Bor A). a.now) (λ (b : Bor B). b.now) z.1) ∙ e.0, sym (right_shown (λ (a : Bor A). a.now) (λ (b : Bor B). b.now) z.1) ∙ e.1)
  places_at p q (z ∷ zs) rest h (suc k) = places_at p q zs rest (All-tail (Places p q) (deref_joined z) (map deref_joined zs ++ rest) h) k

module _ {S T K A B : Type 0} (cmp : K → K → Ordering) (lefts : S → List (K × A)) (rights : T → List (K × B)) where
  abbrev Walk : Type 0
  Walk = JoinedPairs S T (Bor K × Bor A) (Bor K × Bor B)

  abbrev firsts : S → Option (Bor K × Bor A) → S → Type 0
  firsts = YieldsFirstBy deref_pair lefts

  abbrev seconds : T → Option (Bor K × Bor B) → T → Type 0
  seconds = YieldsFirstBy deref_pair rights

  abbrev shown : Bor K → Bor K → Ordering
  shown j k = cmp j.now k.now

  abbrev from_left : Walk → List (K × A)
  from_left w = side_left deref_pair lefts w.left w.lefts

  abbrev from_right : Walk → List (K × B)
  from_right w = side_left deref_pair rights w.right w.rights

  -- the join that is still to be shown
  abbrev to_show : Walk → List (K × EitherOrBoth A B)
  to_show w = merge cmp (from_left w) (from_right w)

  same_left : (w j : Walk) → (j.left ≡ w.left) × (j.lefts ≡ w.lefts) → from_left w ≡ from_left j
  same_left w j e = sym (ap₂ (side_left deref_pair lefts) e.0 e.1)

  same_right : (w j : Walk) → (j.right ≡ w.right) × (j.rights ≡ w.rights) → from_right w ≡ from_right j
  same_right w j e = sym (ap₂ (side_left deref_pair rights) e.0 e.1)

  -- a call shows the first row of it
  step_shows : (l : Option (Bor K × Bor A)) (r : Option (Bor K × Bor B)) (z : Bor K × EitherOrBoth (Bor A) (Bor B)) (w j : Walk) → w.left ≡ l → w.right ≡ r
      → StepsFrom shown firsts seconds l r w (Some z) j → merge cmp (side_left deref_pair lefts l w.lefts) (side_left deref_pair rights r w.rights) ≡ deref_joined z ∷ to_show j
  step_shows None None z w j l r e = let k : Some z ≡ None = e.0 in absurd (cc)
  step_shows (Some x) None z w j l r e =
      let same : z ≡ (x.0, Left x.1) = some_same z (x.0, Left x.1) e.0 in
      let f : lefts w.lefts ≡ from_left j = side_taken deref_pair lefts w.lefts j.lefts j.left e.1 in
      let g : [] ≡ from_right j = sym (ap (λ o. side_left deref_pair rights o w.rights) r) ∙ same_right w j e.2 in
      ap₂ (λ a k. a ∷ k) (sym (ap deref_joined same)) (ap₂ (merge cmp) f g)
  step_shows None (Some y) z w j l r e =
      let same : z ≡ (y.0, Right y.1) = some_same z (y.0, Right y.1) e.0 in
      let f : [] ≡ from_left j = sym (ap (λ o. side_left deref_pair lefts o w.lefts) l) ∙ same_left w j e.1 in
      let g : rights w.rights ≡ from_right j = side_taken deref_pair rights w.rights j.rights j.right e.2 in
      ap₂ (λ a k. a ∷ k) (sym (ap deref_joined same)) (ap₂ (merge cmp) f g)
  step_shows (Some x) (Some y) z w j l r e =
      by_order (shown x.0 y.0)
      (λ d.
      let s = rw d at e in
      let same : z ≡ (x.0, Left x.1) = some_same z (x.0, Left x.1) s.0 in
      let f : lefts w.lefts ≡ from_left j = side_taken deref_pair lefts w.lefts j.lefts j.left s.1 in
      let g : deref_pair y ∷ rights w.rights ≡ from_right j = sym (ap (λ o. side_left deref_pair rights o w.rights) r) ∙ same_right w j s.2 in
      rw d (ap₂ (λ a k. a ∷ k) (sym (ap deref_joined same)) (ap₂ (merge cmp) f g)))
      (λ d.
      let s = rw d at e in
      let same : z ≡ (x.0, Both x.1 y.1) = some_same z (x.0, Both x.1 y.1) s.0 in
      let f : lefts w.lefts ≡ from_left j = side_taken deref_pair lefts w.lefts j.lefts j.left s.1 in
      let g : rights w.rights ≡ from_right j = side_taken deref_pair rights w.rights j.rights j.right s.2 in
      rw d (ap₂ (λ a k. a ∷ k) (sym (ap deref_joined same)) (ap₂ (merge cmp) f g)))
      (λ d.
      let s = rw d at e in
      let same : z ≡ (y.0, Right y.1) = some_same z (y.0, Right y.1) s.0 in
      let f : deref_pair x ∷ lefts w.lefts ≡ from_left j = sym (ap (λ o. side_left deref_pair lefts o w.lefts) l) ∙ same_left w j s.1 in
      let g : rights w.rights ≡ from_right j = side_taken deref_pair rights w.rights j.rights j.right s.2 in
      rw d (ap₂ (λ a k. a ∷ k) (sym (ap deref_joined same)) (ap₂ (merge cmp) f g)))

  -- calls show the rows of it one by one
  calls_show : (zs : List (Bor K × EitherOrBoth (Bor A) (Bor B))) (w u : Walk) → Yields (join_steps shown firsts seconds) w zs u → to_show w ≡ map deref_joined zs ++ to_show u
  calls_show [] w u e = ap to_show e
  calls_show (z ∷ zs) w u e = step_shows w.left w.right z w e.0 refl refl e.1 ∙ ap (λ k. deref_joined z ∷ k) (calls_show zs e.0 u e.2)

  ended_shown : (w u : Walk) → join_steps shown firsts seconds w None u → to_show w ≡ []
  ended_shown w u e =
      let ends = both_ended shown firsts seconds w.left w.right w u refl refl e in
      ap₂ (λ l r. merge cmp (side_left deref_pair lefts l w.lefts) (side_left deref_pair rights r w.rights)) ends.0 ends.1

  module _ (o : IsTotalOrder cmp) (xs : List (K × A)) (ys : List (K × B)) (up_x : Rising cmp xs) (up_y : Rising cmp ys) where
    -- rows that begin the list of the loop
    rows_show : (p : Run (join_steps shown firsts seconds)) (rest : List (K × EitherOrBoth A B)) → merge cmp xs ys ≡ map deref_joined p.items ++ rest → (p.whole ≡ true → rest ≡ []) → ShowsJoin cmp xs ys p
    rows_show p rest e ends =
        let is : IsJoin cmp xs ys (map deref_joined p.items ++ rest) = subst (IsJoin cmp xs ys) e (IsJoin-merge cmp o xs ys up_x up_y) in
        let whole : p.whole ≡ true → IsJoin cmp xs ys (map deref_joined p.items) = λ w. subst (IsJoin cmp xs ys) (ap (λ k. map deref_joined p.items ++ k) (ends w) ∙ append-nil (map deref_joined p.items)) is in
        let long = join_length cmp o A B xs ys _ up_x up_y is in
        let parts = length-append (map deref_joined p.items) rest in
        let rows = length-map p.items deref_joined in record {
          bound = omega (arith, long, parts, rows, p.long);
          join = whole;
          places = λ k. subst (λ r. IfSome r (ShowsPlaces cmp xs ys)) (sym (at-is p k)) (places_at cmp xs ys p.items rest (join_places cmp o A B xs ys _ is) k);
          rises = rising cmp (λ k. ⊤) (map deref_joined p.items) (up_before cmp (λ k. ⊤) (map deref_joined p.items) rest (up cmp _ is.rises));
          begins = begins cmp xs ys _ rest is;
          whole_len = λ w. let all = join_length cmp o A B xs ys _ up_x up_y (whole w) in omega (arith, all, rows, p.long);
          counts = λ w. counts_shown cmp xs ys p.items (join_counts cmp o A B xs ys _ up_x up_y (whole w));
        }

    -- a walk that holds the first items of two lists shows their join
    pub shown_walk : (w : Walk) (s : S) (t : T) → lefts s ≡ xs → rights t ≡ ys → HoldsFirsts firsts seconds s t w → (p : Run (join_steps shown firsts seconds)) → p.from ≡ w → ShowsJoin cmp xs ys p
    shown_walk w s t l r h p from =
        let calls = took p in
        let u = calls.0 in
        let left : xs ≡ from_left w = sym l ∙ side_taken deref_pair lefts s w.lefts w.left h.0 in
        let right : ys ≡ from_right w = sym r ∙ side_taken deref_pair rights t w.rights w.right h.1 in
        rows_show p (to_show u) (ap₂ (merge cmp) left right ∙ sym (ap to_show from) ∙ calls_show p.items p.from u calls.1) (λ b. ended_shown u (calls.2 b).0 (calls.2 b).1)
