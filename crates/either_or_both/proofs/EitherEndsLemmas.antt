-- The walks of `Either` have the list of their held side still to come.
use Rattle.std.proofs.Common.{◌≡◌, ℕ, zero, suc, List, [], ◌∷◌, ◌++◌, map, length, Option, Some, None, MatchOption, IsSomeAnd, refl, sym, ap, subst, ◌∙◌}
use Rattle.std.proofs.lemmas.List.{map-append, length-map}
use Rattle.std.specs.Iterator.{Count, AlwaysYields, size}
use Rattle.eob_both.specs.Ends.{Ends, FirstTaken, LastTaken, IsExactly, HoldsFor, ToCome}
use Rattle.eob_both.proofs.EndsLemmas.{to_come_back}
use Rattle.either_or_both.specs.declared.either.Either.{Either}
use Rattle.either_or_both.specs.declared.either.Either.TheVariants.{Left, Right}
use Rattle.either_or_both.specs.declared.iter_either.inner.InnerIterEither.{InnerIterEither}
use Rattle.either_or_both.specs.declared.iter_either.swap.SwapIterEither.{SwapIterEither}
use Rattle.either_or_both.specs.Either.{item_left, item_right, map_places, MatchPlaces}
use Rattle.either_or_both.specs.EitherInner.{inner_held, inner_ends}
use Rattle.either_or_both.specs.EitherSwap.{swap_side, count_of, held_swap_steps, held_swap_ends, HeldSwapYields, HeldSwapToCome}
use Rattle.either_or_both.proofs.EitherRunLemmas.{left_move, right_move}

-- a call where a list comes forward takes its first item
pub always_next : {S A B : Type 0} (steps : S → Option A → S → Type 0) (v : A → B) (s : S) (xs : List B) (r : Option A) (t : S) → AlwaysYields steps v s xs → steps s r t
    → MatchOption r (xs ≡ []) (λ x. (ys : List B) × (xs ≡ v x ∷ ys) × AlwaysYields steps v t ys)
always_next steps v s [] None t h e = refl
always_next steps v s [] (Some x) t h e = absurd (h x t e)
always_next steps v s (y ∷ ys) None t h e = absurd (h.0 t e)
always_next steps v s (y ∷ ys) (Some x) t h e = let k = h.1 x t e in (ys, ap (λ z. z ∷ ys) (sym k.0), k.1)

-- `jt` walks over `it`: `holds z s` says that the walk z holds s, and f is what it makes of each item
module _ {S W A B C D : Type 0} (it : Ends S A) (jt : Ends W B) (view : A → C) (other : B → D) (f : C → D) (holds : W → S → Type 0) where
  -- r is o, made so
  abbrev pub Wraps : Option A → Option B → Type 0
  Wraps o r = MatchOption o (r ≡ None) (λ x. IsSomeAnd r (λ y. other y ≡ f (view x)))

  abbrev Moves : (S → Option A → S → Type 0) → (W → Option B → W → Type 0) → Type 0
  Moves steps walks = (z : W) (r : Option B) (j : W) (s : S) → holds z s → walks z r j → (t : S) × (o : Option A) × holds j t × steps s o t × Wraps o r

  pub record Carries : Type 0 where
    pub callable : (z : W) (s : S) → holds z s → it.can_next s → jt.can_next z
    pub callable_back : (z : W) (s : S) → holds z s → it.can_next_back s → jt.can_next_back z
    pub counted : (z : W) (s : S) → holds z s → jt.remaining z ≡ it.remaining s
    pub front : Moves it.next_gives jt.next_gives
    pub back : Moves it.next_back_gives jt.next_back_gives

  module _ (P : List C → S → Type 0) (Q : List D → W → Type 0) (next : (ys : List C) (t : S) (j : W) → holds j t → P ys t → Q (map f ys) j) where
    first_carried : (xs : List C) (o : Option A) (r : Option B) (t : S) (j : W) → holds j t → Wraps o r → FirstTaken view P xs o t → FirstTaken other Q (map f xs) r j
    first_carried xs None None t j a w k = (ap (map f) k.0, next [] t j a k.1)
    first_carried xs None (Some y) t j a w k = absurd (let e = w in cc)
    first_carried xs (Some x) None t j a w k = elim w [ ]
    first_carried xs (Some x) (Some y) t j a w k = (map f k.0, ap (map f) k.1 ∙ ap (λ d. d ∷ map f k.0) (sym w), next k.0 t j a k.2)

    pub last_carried : (xs : List C) (o : Option A) (r : Option B) (t : S) (j : W) → holds j t → Wraps o r → LastTaken view P xs o t → LastTaken other Q (map f xs) r j
    last_carried xs None None t j a w k = (ap (map f) k.0, next [] t j a k.1)
    last_carried xs None (Some y) t j a w k = absurd (let e = w in cc)
    last_carried xs (Some x) None t j a w k = elim w [ ]
    last_carried xs (Some x) (Some y) t j a w k = (map f k.0, ap (map f) k.1 ∙ map-append f k.0 (view x ∷ []) ∙ ap (λ d. map f k.0 ++ d ∷ []) (sym w), next k.0 t j a k.2)

  module _ (c : Count → ℕ → Type 0) (carries : Carries) where
    carried_holds : (n : ℕ) (xs : List C) (s : S) (z : W) → holds z s → HoldsFor c it view n xs s → HoldsFor c jt other n (map f xs) z
    carried_holds zero xs s z a h = tt
    carried_holds (suc n) xs s z a h = record {
      callable = carries.callable z s a h.callable;
      callable_back = carries.callable_back z s a h.callable_back;
      counted = subst (λ l. c (jt.remaining z) l) (sym (length-map xs f)) (subst (λ k. c k (length xs)) (sym (carries.counted z s a)) h.counted);
      front = λ r j e. let m = carries.front z r j s a e in first_carried (HoldsFor c it view n) (HoldsFor c jt other n) (carried_holds n) xs m.1 r m.0 j m.2 m.4 (h.front m.1 m.0 m.3);
      back = λ r j e. let m = carries.back z r j s a e in last_carried (HoldsFor c it view n) (HoldsFor c jt other n) (carried_holds n) xs m.1 r m.0 j m.2 m.4 (h.back m.1 m.0 m.3);
    }

    pub to_come_carried : (xs : List C) (s : S) (z : W) → holds z s → ToCome c it view xs s → ToCome c jt other (map f xs) z
    to_come_carried xs s z a h = record { after = λ n. carried_holds n xs s z a (h.after n) }

map_same : {A : Type 0} (xs : List A) → map (λ x. x) xs ≡ xs
map_same [] = refl
map_same (x ∷ xs) = ap (λ l. x ∷ l) (map_same xs)

module _ {S A B : Type 0} (it : Ends S A) (view : A → B) where
  abbrev held_by : InnerIterEither S → S → Type 0
  held_by z s = inner_held z ≡ s

  as_it_is : (r : Option A) → Wraps it (inner_ends it) view view (λ x. x) held_by r r
  as_it_is None = refl
  as_it_is (Some x) = refl

  inner_carries : Carries it (inner_ends it) view view (λ x. x) held_by
  inner_carries = record {
    callable = λ z s a h. subst it.can_next (sym a) h;
    callable_back = λ z s a h. subst it.can_next_back (sym a) h;
    counted = λ z s a. ap it.remaining a;
    front = λ z r j s a e. (inner_held j, r, refl, subst (λ u. it.next_gives u r (inner_held j)) a e, as_it_is r);
    back = λ z r j s a e. (inner_held j, r, refl, subst (λ u. it.next_back_gives u r (inner_held j)) a e, as_it_is r);
  }

  pub inner_to_come : (c : Count → ℕ → Type 0) (xs : List B) (z : InnerIterEither S) → ToCome c it view xs (inner_held z) → ToCome c (inner_ends it) view xs z
  inner_to_come c xs z h = subst (λ l. ToCome c (inner_ends it) view l z) (map_same xs) (to_come_carried it (inner_ends it) view view (λ x. x) held_by c inner_carries xs (inner_held z) z refl h)

-- an iterator that counts its list has its length left
pub counted_len : {S A B : Type 0} (it : Ends S A) (view : A → B) (xs : List B) (s : S) → ToCome IsExactly it view xs s → size (it.remaining s) ≡ length xs
counted_len it view xs s h = ap size (h.after 1).counted

module _ {S T A B C D : Type 0} (it : Ends S A) (jt : Ends T B) (v : A → C) (w : B → D) where
  abbrev to_left : C → Either C D
  to_left x = Left x

  abbrev to_right : D → Either C D
  to_right y = Right y

  abbrev left_by : SwapIterEither S T → S → Type 0
  left_by z s = swap_side z ≡ Left s

  left_wraps : (r : Option (Either A B)) → item_right r ≡ None → Wraps it (held_swap_ends it jt) v (map_places v w) to_left left_by (item_left r) r
  left_wraps None e = refl
  left_wraps (Some (Left x)) e = refl
  left_wraps (Some (Right y)) e = absurd (let k = e in cc)

  left_carries : Carries it (held_swap_ends it jt) v (map_places v w) to_left left_by
  left_carries = record {
    callable = λ z s a h. subst (λ o. MatchPlaces o it.can_next jt.can_next) (sym a) h;
    callable_back = λ z s a h. subst (λ o. MatchPlaces o it.can_next_back jt.can_next_back) (sym a) h;
    counted = λ z s a. ap (count_of it.remaining jt.remaining) a;
    front = λ z r j s a e. let m = left_move it.next_gives jt.next_gives r z j s a e in (m.0, item_left r, m.1, m.2, left_wraps r m.3);
    back = λ z r j s a e. let m = left_move it.next_back_gives jt.next_back_gives r z j s a e in (m.0, item_left r, m.1, m.2, left_wraps r m.3);
  }

  left_come : (c : Count → ℕ → Type 0) (zs : List (Either C D)) (z : SwapIterEither S T) (s : S) → swap_side z ≡ Left s → (xs : List C) × ToCome c it v xs s × (zs ≡ map to_left xs) → ToCome c (held_swap_ends it jt) (map_places v w) zs z
  left_come c zs z s a h = subst (λ l. ToCome c (held_swap_ends it jt) (map_places v w) l z) (sym h.2) (to_come_carried it (held_swap_ends it jt) v (map_places v w) to_left left_by c left_carries h.0 s z a h.1)

  left_stays : (c : Count → ℕ → Type 0) (xs : List C) (s : S) (z : SwapIterEither S T) → swap_side z ≡ Left s → ToCome c it v xs s → HeldSwapToCome c it jt v w (map to_left xs) z
  left_stays c xs s z a h = subst (λ o. MatchPlaces o (λ b. (ys : List C) × ToCome c it v ys b × (map to_left xs ≡ map to_left ys)) (λ b. (ys : List D) × ToCome c jt w ys b × (map to_left xs ≡ map to_right ys))) (sym a) (xs, h, refl)

  left_back : (c : Count → ℕ → Type 0) (zs : List (Either C D)) (z : SwapIterEither S T) (r : Option (Either A B)) (j : SwapIterEither S T) (s : S) → swap_side z ≡ Left s → (xs : List C) × ToCome c it v xs s × (zs ≡ map to_left xs)
      → held_swap_steps it.next_back_gives jt.next_back_gives z r j → LastTaken (map_places v w) (HeldSwapToCome c it jt v w) zs r j
  left_back c zs z r j s a h e =
      let m = left_move it.next_back_gives jt.next_back_gives r z j s a e in
      subst (λ l. LastTaken (map_places v w) (HeldSwapToCome c it jt v w) l r j) (sym h.2) (last_carried it (held_swap_ends it jt) v (map_places v w) to_left left_by (ToCome c it v) (HeldSwapToCome c it jt v w) (left_stays c) h.0 (item_left r) r m.0 j m.1 (left_wraps r m.3) (to_come_back (item_left r) m.0 h.1 m.2))

  abbrev right_by : SwapIterEither S T → T → Type 0
  right_by z s = swap_side z ≡ Right s

  right_wraps : (r : Option (Either A B)) → item_left r ≡ None → Wraps jt (held_swap_ends it jt) w (map_places v w) to_right right_by (item_right r) r
  right_wraps None e = refl
  right_wraps (Some (Right x)) e = refl
  right_wraps (Some (Left y)) e = absurd (let k = e in cc)

  right_carries : Carries jt (held_swap_ends it jt) w (map_places v w) to_right right_by
  right_carries = record {
    callable = λ z s a h. subst (λ o. MatchPlaces o it.can_next jt.can_next) (sym a) h;
    callable_back = λ z s a h. subst (λ o. MatchPlaces o it.can_next_back jt.can_next_back) (sym a) h;
    counted = λ z s a. ap (count_of it.remaining jt.remaining) a;
    front = λ z r j s a e. let m = right_move it.next_gives jt.next_gives r z j s a e in (m.0, item_right r, m.1, m.2, right_wraps r m.3);
    back = λ z r j s a e. let m = right_move it.next_back_gives jt.next_back_gives r z j s a e in (m.0, item_right r, m.1, m.2, right_wraps r m.3);
  }

  right_come : (c : Count → ℕ → Type 0) (zs : List (Either C D)) (z : SwapIterEither S T) (s : T) → swap_side z ≡ Right s → (xs : List D) × ToCome c jt w xs s × (zs ≡ map to_right xs) → ToCome c (held_swap_ends it jt) (map_places v w) zs z
  right_come c zs z s a h = subst (λ l. ToCome c (held_swap_ends it jt) (map_places v w) l z) (sym h.2) (to_come_carried jt (held_swap_ends it jt) w (map_places v w) to_right right_by c right_carries h.0 s z a h.1)

  right_stays : (c : Count → ℕ → Type 0) (xs : List D) (s : T) (z : SwapIterEither S T) → swap_side z ≡ Right s → ToCome c jt w xs s → HeldSwapToCome c it jt v w (map to_right xs) z
  right_stays c xs s z a h = subst (λ o. MatchPlaces o (λ b. (ys : List C) × ToCome c it v ys b × (map to_right xs ≡ map to_left ys)) (λ b. (ys : List D) × ToCome c jt w ys b × (map to_right xs ≡ map to_right ys))) (sym a) (xs, h, refl)

  right_back : (c : Count → ℕ → Type 0) (zs : List (Either C D)) (z : SwapIterEither S T) (r : Option (Either A B)) (j : SwapIterEither S T) (s : T) → swap_side z ≡ Right s → (xs : List D) × ToCome c jt w xs s × (zs ≡ map to_right xs)
      → held_swap_steps it.next_back_gives jt.next_back_gives z r j → LastTaken (map_places v w) (HeldSwapToCome c it jt v w) zs r j
  right_back c zs z r j s a h e =
      let m = right_move it.next_back_gives jt.next_back_gives r z j s a e in
      subst (λ l. LastTaken (map_places v w) (HeldSwapToCome c it jt v w) l r j) (sym h.2) (last_carried jt (held_swap_ends it jt) w (map_places v w) to_right right_by (ToCome c jt w) (HeldSwapToCome c it jt v w) (right_stays c) h.0 (item_right r) r m.0 j m.1 (right_wraps r m.3) (to_come_back (item_right r) m.0 h.1 m.2))

  -- the walk has the list of the held side still to come, in the held variant
  pub held_swap_to_come : (c : Count → ℕ → Type 0) (zs : List (Either C D)) (z : SwapIterEither S T) → HeldSwapToCome c it jt v w zs z → ToCome c (held_swap_ends it jt) (map_places v w) zs z
  held_swap_to_come c zs z h = by (swap_side z) refl h
    where
      by : (o : Either S T) → swap_side z ≡ o → MatchPlaces o (λ a. (xs : List C) × ToCome c it v xs a × (zs ≡ map to_left xs)) (λ b. (ys : List D) × ToCome c jt w ys b × (zs ≡ map to_right ys)) → ToCome c (held_swap_ends it jt) (map_places v w) zs z
      by (Left s) a h = left_come c zs z s a h
      by (Right t) a h = right_come c zs z t a h

  -- a call of the back takes the last
  pub held_swap_back : (c : Count → ℕ → Type 0) (zs : List (Either C D)) (z : SwapIterEither S T) (r : Option (Either A B)) (j : SwapIterEither S T) → HeldSwapToCome c it jt v w zs z → held_swap_steps it.next_back_gives jt.next_back_gives z r j → LastTaken (map_places v w) (HeldSwapToCome c it jt v w) zs r j
  held_swap_back c zs z r j h e = by (swap_side z) refl h
    where
      by : (o : Either S T) → swap_side z ≡ o → MatchPlaces o (λ a. (xs : List C) × ToCome c it v xs a × (zs ≡ map to_left xs)) (λ b. (ys : List D) × ToCome c jt w ys b × (zs ≡ map to_right ys)) → LastTaken (map_places v w) (HeldSwapToCome c it jt v w) zs r j
      by (Left s) a h = left_back c zs z r j s a h e
      by (Right t) a h = right_back c zs z r j t a h e

module _ {S T A B C D : Type 0} (firsts : S → Option A → S → Type 0) (seconds : T → Option B → T → Type 0) (v : A → C) (w : B → D) where
  abbrev left_of : C → Either C D
  left_of x = Left x

  abbrev right_of : D → Either C D
  right_of y = Right y

  forward_left : (zs : List (Either C D)) (z : SwapIterEither S T) (r : Option (Either A B)) (j : SwapIterEither S T) (s : S) → swap_side z ≡ Left s → (xs : List C) × AlwaysYields firsts v s xs × (zs ≡ map left_of xs) → held_swap_steps firsts seconds z r j
      → MatchOption r (zs ≡ []) (λ x. (ys : List (Either C D)) × (zs ≡ map_places v w x ∷ ys) × HeldSwapYields firsts seconds v w ys j)
  forward_left zs z r j s a h e = took r (left_move firsts seconds r z j s a e)
    where
      stays : (xs : List C) (b : S) → swap_side j ≡ Left b → AlwaysYields firsts v b xs → HeldSwapYields firsts seconds v w (map left_of xs) j
      stays xs b o k = subst (λ o. MatchPlaces o (λ b. (ys : List C) × AlwaysYields firsts v b ys × (map left_of xs ≡ map left_of ys)) (λ b. (ys : List D) × AlwaysYields seconds w b ys × (map left_of xs ≡ map right_of ys))) (sym o) (xs, k, refl)

      took : (r : Option (Either A B)) → (b : S) × (swap_side j ≡ Left b) × firsts s (item_left r) b × (item_right r ≡ None) → MatchOption r (zs ≡ []) (λ x. (ys : List (Either C D)) × (zs ≡ map_places v w x ∷ ys) × HeldSwapYields firsts seconds v w ys j)
      took None m = let k = always_next firsts v s h.0 None m.0 h.1 m.2 in h.2 ∙ ap (map left_of) k
      took (Some (Left x)) m = let k = always_next firsts v s h.0 (Some x) m.0 h.1 m.2 in (map left_of k.0, h.2 ∙ ap (map left_of) k.1, stays k.0 m.0 m.1 k.2)
      took (Some (Right y)) m = absurd (let k = m.3 in cc)

  forward_right : (zs : List (Either C D)) (z : SwapIterEither S T) (r : Option (Either A B)) (j : SwapIterEither S T) (s : T) → swap_side z ≡ Right s → (xs : List D) × AlwaysYields seconds w s xs × (zs ≡ map right_of xs) → held_swap_steps firsts seconds z r j
      → MatchOption r (zs ≡ []) (λ x. (ys : List (Either C D)) × (zs ≡ map_places v w x ∷ ys) × HeldSwapYields firsts seconds v w ys j)
  forward_right zs z r j s a h e = took r (right_move firsts seconds r z j s a e)
    where
      stays : (xs : List D) (b : T) → swap_side j ≡ Right b → AlwaysYields seconds w b xs → HeldSwapYields firsts seconds v w (map right_of xs) j
      stays xs b o k = subst (λ o. MatchPlaces o (λ b. (ys : List C) × AlwaysYields firsts v b ys × (map right_of xs ≡ map left_of ys)) (λ b. (ys : List D) × AlwaysYields seconds w b ys × (map right_of xs ≡ map right_of ys))) (sym o) (xs, k, refl)

      took : (r : Option (Either A B)) → (b : T) × (swap_side j ≡ Right b) × seconds s (item_right r) b × (item_left r ≡ None) → MatchOption r (zs ≡ []) (λ x. (ys : List (Either C D)) × (zs ≡ map_places v w x ∷ ys) × HeldSwapYields firsts seconds v w ys j)
      took None m = let k = always_next seconds w s h.0 None m.0 h.1 m.2 in h.2 ∙ ap (map right_of) k
      took (Some (Right x)) m = let k = always_next seconds w s h.0 (Some x) m.0 h.1 m.2 in (map right_of k.0, h.2 ∙ ap (map right_of) k.1, stays k.0 m.0 m.1 k.2)
      took (Some (Left y)) m = absurd (let k = m.3 in cc)

  -- a call of the front takes the first of the list that comes forward
  pub held_swap_front : (zs : List (Either C D)) (z : SwapIterEither S T) (r : Option (Either A B)) (j : SwapIterEither S T) → HeldSwapYields firsts seconds v w zs z → held_swap_steps firsts seconds z r j
      → MatchOption r (zs ≡ []) (λ x. (ys : List (Either C D)) × (zs ≡ map_places v w x ∷ ys) × HeldSwapYields firsts seconds v w ys j)
  held_swap_front zs z r j h e = by (swap_side z) refl h
    where
      by : (o : Either S T) → swap_side z ≡ o → MatchPlaces o (λ a. (xs : List C) × AlwaysYields firsts v a xs × (zs ≡ map left_of xs)) (λ b. (ys : List D) × AlwaysYields seconds w b ys × (zs ≡ map right_of ys))
          → MatchOption r (zs ≡ []) (λ x. (ys : List (Either C D)) × (zs ≡ map_places v w x ∷ ys) × HeldSwapYields firsts seconds v w ys j)
      by (Left s) a h = forward_left zs z r j s a h e
      by (Right t) a h = forward_right zs z r j t a h e
