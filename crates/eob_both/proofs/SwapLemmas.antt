-- The paired walk has the aligned list of its sides still to come.
use Rattle.std.proofs.Common.{◌≡◌, ℕ, zero, suc, ◌+◌, List, [], ◌∷◌, ◌++◌, map, length, Option, Some, None, refl, sym, ap, ap₂, subst, inl, inr, ◌∙◌, arith}
use Rattle.std.proofs.lemmas.Bool.{cases_lt}
use Rattle.std.proofs.lemmas.List.{length-append}
use Rattle.std.specs.Iterator.{Count, at_most, AlwaysYields}
use Rattle.eob_both.specs.declared.either_or_both.EitherOrBoth.{EitherOrBoth}
use Rattle.eob_both.specs.declared.either_or_both.EitherOrBoth.TheVariants.{Left, Both, Right}
use Rattle.eob_both.specs.declared.iter.swap.SwapIterEitherOrBoth.{SwapIterEitherOrBoth}
use Rattle.eob_both.specs.Places.{map_places}
use Rattle.eob_both.specs.Aligned.{aligned}
use Rattle.eob_both.specs.Side.{count_max, IsSideOf}
use Rattle.eob_both.specs.Ends.{Ends, FirstTaken, LastTaken, IsExactly, HoldsFor, CountedToCome, SideToCome, PlaceToCome, SideYields}
use Rattle.eob_both.specs.Swap.{swap_left, swap_right, swap_steps, swap_steps_back, swap_ends, SwapYields, SwapToCome}
use Rattle.eob_both.proofs.EndsLemmas.{side_of_place}
use Rattle.eob_both.proofs.StepLemmas.{TakesFront, TakesBack, Counts, SideHolds, side_fewer, side_counted, side_len_is, side_callable, side_callable_back, side_front, side_back, side_of_all, side_to_come_len, side_to_come_back, side_yields_front}
use Rattle.eob_both.proofs.AlignedLemmas.{aligned-nil, length-aligned, aligned-left_last, aligned-right_last, aligned-both_last}

empty_len : {A : Type 0} (xs : List A) → xs ≡ [] → length xs ≡ 0
empty_len xs e = ap length e

snoc_len : {A : Type 0} (xs ys : List A) (y : A) → xs ≡ ys ++ y ∷ [] → length xs ≡ length ys + 1
snoc_len xs ys y e = ap length e ∙ length-append ys (y ∷ [])

head_same : {B : Type 0} {x y : B} {xs ys : List B} → x ∷ xs ≡ y ∷ ys → x ≡ y
head_same e = cc

tail_same : {B : Type 0} {x y : B} {xs ys : List B} → x ∷ xs ≡ y ∷ ys → xs ≡ ys
tail_same e = cc

module _ {S T A B C D : Type 0} (firsts : S → Option A → S → Type 0) (seconds : T → Option B → T → Type 0) (v : A → C) (w : B → D)
    (F G : List C → Option S → Type 0) (H K : List D → Option T → Type 0) (P : List (EitherOrBoth C D) → SwapIterEitherOrBoth S T → Type 0)
    (next : (p : List C) (q : List D) (t : SwapIterEitherOrBoth S T) → G p (swap_left t) → K q (swap_right t) → P (aligned p q) t) where
  abbrev Walk : Type 0
  Walk = SwapIterEitherOrBoth S T

  pub swap_front : TakesFront firsts v F G → TakesFront seconds w H K → (p : List C) (q : List D) (s : Walk) (r : Option (EitherOrBoth A B)) (t : Walk)
      → F p (swap_left s) → H q (swap_right s) → swap_steps firsts seconds s r t
      → FirstTaken (map_places v w) P (aligned p q) r t
  swap_front f g p q s None t a b e =
      let l = f p (swap_left s) None (swap_left t) a e.0 in
      let m = g q (swap_right s) None (swap_right t) b e.1 in
      (ap₂ aligned l.0 m.0, next [] [] t l.1 m.1)
  swap_front f g p q s (Some (Left x)) t a b e =
      let l = f p (swap_left s) (Some x) (swap_left t) a e.0 in
      let m = g q (swap_right s) None (swap_right t) b e.1 in
      (map (λ a. Left a) l.0, ap₂ aligned l.1 m.0, subst (λ k. P k t) (aligned-nil l.0) (next l.0 [] t l.2 m.1))
  swap_front f g p q s (Some (Both x y)) t a b e =
      let l = f p (swap_left s) (Some x) (swap_left t) a e.0 in
      let m = g q (swap_right s) (Some y) (swap_right t) b e.1 in
      (aligned l.0 m.0, ap₂ aligned l.1 m.1, next l.0 m.0 t l.2 m.2)
  swap_front f g p q s (Some (Right y)) t a b e =
      let l = f p (swap_left s) None (swap_left t) a e.0 in
      let m = g q (swap_right s) (Some y) (swap_right t) b e.1 in
      (aligned [] m.0, ap₂ aligned l.0 m.1, next [] m.0 t l.1 m.2)

  module _ (left : S → Count) (right : T → Count) (counts : Counts left F) (others : Counts right H)
      (stays : (xs : List C) (o : Option S) → F xs o → G xs o) (remains : (ys : List D) (o : Option T) → H ys o → K ys o)
      (f : TakesBack firsts v F G) (g : TakesBack seconds w H K) where
    pub swap_back : (p : List C) (q : List D) (s : Walk) (r : Option (EitherOrBoth A B)) (t : Walk) → F p (swap_left s) → H q (swap_right s) → swap_steps_back firsts seconds left right s r t
        → LastTaken (map_places v w) P (aligned p q) r t
    swap_back p q s None t a b e =
        let i = counts p (swap_left s) a in
        let j = others q (swap_right s) b in
        elim (cases_lt (length p) (length q)) [
          | inl k ↦
              let m = g q (swap_right s) None (swap_right t) b (e.1.goes (omega (arith, i, j))) in
              absurd (omega (arith, empty_len q m.0))
          | inr k ↦
              let l = f p (swap_left s) None (swap_left t) a (e.0.goes (omega (arith, i, j))) in
              let m = g q (swap_right s) None (swap_right t) b (e.1.goes (omega (arith, i, j, empty_len p l.0))) in
              (ap₂ aligned l.0 m.0, next [] [] t l.1 m.1)
        ]
    swap_back p q s (Some (Left x)) t a b e =
        let i = counts p (swap_left s) a in
        let j = others q (swap_right s) b in
        elim (cases_lt (length p) (length q)) [
          | inl k ↦ absurd (let f = (e.0.waits (omega (arith, i, j))).0 in cc)
          | inr k ↦
              let l = f p (swap_left s) (Some x) (swap_left t) a (e.0.goes (omega (arith, i, j))) in
              elim (cases_lt (length q) (length p)) [
                | inl h ↦
                    let m = subst (K q) (sym (e.1.waits (omega (arith, i, j))).1) (remains q (swap_right s) b) in
                    (aligned l.0 q, ap (λ z. aligned z q) l.1 ∙ aligned-left_last l.0 (v x) q (omega (arith, snoc_len p l.0 (v x) l.1)), next l.0 q t l.2 m)
                | inr h ↦
                    let m = g q (swap_right s) None (swap_right t) b (e.1.goes (omega (arith, i, j))) in
                    absurd (omega (arith, empty_len q m.0, snoc_len p l.0 (v x) l.1))
              ]
        ]
    swap_back p q s (Some (Right y)) t a b e =
        let i = counts p (swap_left s) a in
        let j = others q (swap_right s) b in
        elim (cases_lt (length q) (length p)) [
          | inl k ↦ absurd (let f = (e.1.waits (omega (arith, i, j))).0 in cc)
          | inr k ↦
              let m = g q (swap_right s) (Some y) (swap_right t) b (e.1.goes (omega (arith, i, j))) in
              elim (cases_lt (length p) (length q)) [
                | inl h ↦
                    let l = subst (G p) (sym (e.0.waits (omega (arith, i, j))).1) (stays p (swap_left s) a) in
                    (aligned p m.0, ap (λ z. aligned p z) m.1 ∙ aligned-right_last p m.0 (w y) (omega (arith, snoc_len q m.0 (w y) m.1)), next p m.0 t l m.2)
                | inr h ↦
                    let l = f p (swap_left s) None (swap_left t) a (e.0.goes (omega (arith, i, j))) in
                    absurd (omega (arith, empty_len p l.0, snoc_len q m.0 (w y) m.1))
              ]
        ]
    swap_back p q s (Some (Both x y)) t a b e =
        let i = counts p (swap_left s) a in
        let j = others q (swap_right s) b in
        elim (cases_lt (length p) (length q)) [
          | inl k ↦ absurd (let f = (e.0.waits (omega (arith, i, j))).0 in cc)
          | inr k ↦ elim (cases_lt (length q) (length p)) [
            | inl h ↦ absurd (let f = (e.1.waits (omega (arith, i, j))).0 in cc)
            | inr h ↦
                let l = f p (swap_left s) (Some x) (swap_left t) a (e.0.goes (omega (arith, i, j))) in
                let m = g q (swap_right s) (Some y) (swap_right t) b (e.1.goes (omega (arith, i, j))) in
                (aligned l.0 m.0, ap₂ aligned l.1 m.1 ∙ aligned-both_last l.0 (v x) m.0 (w y) (omega (arith, snoc_len p l.0 (v x) l.1, snoc_len q m.0 (w y) m.1)), next l.0 m.0 t l.2 m.2)
          ]
        ]

module _ {S T A B C D : Type 0} (it : Ends S A) (jt : Ends T B) (v : A → C) (w : B → D) where
  abbrev Holds : ℕ → List (EitherOrBoth C D) → SwapIterEitherOrBoth S T → Type 0
  Holds = HoldsFor IsExactly (swap_ends it jt) (map_places v w)

  swap_holds : (n : ℕ) (p : List C) (q : List D) (s : SwapIterEitherOrBoth S T) → SideHolds IsExactly it v n p (swap_left s) → SideHolds IsExactly jt w n q (swap_right s) → Holds n (aligned p q) s
  swap_holds zero p q s a b = tt
  swap_holds (suc n) p q s a b = record {
    callable = (side_callable IsExactly it v n p (swap_left s) a, side_callable IsExactly jt w n q (swap_right s) b);
    callable_back = (side_callable_back IsExactly it v n p (swap_left s) a, side_callable_back IsExactly jt w n q (swap_right s) b);
    counted = ap₂ count_max (side_counted IsExactly it v refl n p (swap_left s) a) (side_counted IsExactly jt w refl n q (swap_right s) b) ∙ ap at_most (sym (length-aligned p q));
    front = λ r t e. swap_front it.next_gives jt.next_gives v w (SideHolds IsExactly it v (suc n)) (SideHolds IsExactly it v n) (SideHolds IsExactly jt w (suc n)) (SideHolds IsExactly jt w n) (Holds n) (λ p' q' t' a' b'. swap_holds n p' q' t' a' b') (side_front IsExactly it v n) (side_front IsExactly jt w n) p q s r t a b e;
    back = λ r t e. swap_back it.next_back_gives jt.next_back_gives v w (SideHolds IsExactly it v (suc n)) (SideHolds IsExactly it v n) (SideHolds IsExactly jt w (suc n)) (SideHolds IsExactly jt w n) (Holds n) (λ p' q' t' a' b'. swap_holds n p' q' t' a' b') it.remaining jt.remaining (side_len_is it v n) (side_len_is jt w n) (side_fewer IsExactly it v n) (side_fewer IsExactly jt w n) (side_back IsExactly it v n) (side_back IsExactly jt w n) p q s r t a b e;
  }

  -- where the sides have p and q still to come, the walk has the two aligned
  pub swap_to_come : (p : List C) (q : List D) (s : SwapIterEitherOrBoth S T) → SideToCome IsExactly it v p (swap_left s) → SideToCome IsExactly jt w q (swap_right s) → CountedToCome (swap_ends it jt) (map_places v w) (aligned p q) s
  swap_to_come p q s a b = record { after = λ n. swap_holds n p q s (side_of_all IsExactly it v p (swap_left s) a n) (side_of_all IsExactly jt w q (swap_right s) b n) }

-- where the places of a pair are to give p and q, the walk that is made of them has the two aligned still to come
pub swap_of_places : {X Y S T A B C D : Type 0} (gives : X → S → Type 0) (others : Y → T → Type 0) (it : Ends S A) (jt : Ends T B) (v : A → C) (w : B → D) (p : List C) (q : List D) (place : Option X) (other : Option Y) (s : SwapIterEitherOrBoth S T)
    → PlaceToCome gives IsExactly it v p place → PlaceToCome others IsExactly jt w q other
    → IsSideOf gives place (swap_left s) → IsSideOf others other (swap_right s)
    → CountedToCome (swap_ends it jt) (map_places v w) (aligned p q) s
swap_of_places gives others it jt v w p q place other s a b made made' =
    swap_to_come it jt v w p q s (side_of_place gives IsExactly it v p place (swap_left s) a made) (side_of_place others IsExactly jt w q other (swap_right s) b made')

module _ {S T A B C D : Type 0} (firsts : S → Option A → S → Type 0) (seconds : T → Option B → T → Type 0) (v : A → C) (w : B → D) where
  abbrev Gives : List (EitherOrBoth C D) → SwapIterEitherOrBoth S T → Type 0
  Gives = SwapYields firsts seconds v w

  pub swap_yields_front : (zs : List (EitherOrBoth C D)) (s : SwapIterEitherOrBoth S T) (r : Option (EitherOrBoth A B)) (t : SwapIterEitherOrBoth S T) → Gives zs s → swap_steps firsts seconds s r t
      → FirstTaken (map_places v w) Gives zs r t
  swap_yields_front zs s r t h e = subst (λ l. FirstTaken (map_places v w) Gives l r t) (sym h.4)
      (swap_front firsts seconds v w (SideYields firsts v) (SideYields firsts v) (SideYields seconds w) (SideYields seconds w) Gives (λ p q t a b. (p, q, a, b, refl)) (side_yields_front firsts v) (side_yields_front seconds w) h.0 h.1 s r t h.2 h.3 e)

  -- taken forward, the walk gives the aligned list
  pub swap_always : (zs : List (EitherOrBoth C D)) (s : SwapIterEitherOrBoth S T) → Gives zs s → AlwaysYields (swap_steps firsts seconds) (map_places v w) s zs
  swap_always [] s h = λ x j e. let k = (swap_yields_front [] s (Some x) j h e).1 in cc
  swap_always (z ∷ zs) s h = (
    λ j e. let k = (swap_yields_front (z ∷ zs) s None j h e).0 in cc,
    λ x j e. let k = swap_yields_front (z ∷ zs) s (Some x) j h e in (head_same (sym k.1), swap_always zs j (subst (λ l. Gives l j) (tail_same (sym k.1)) k.2)),
  )

module _ {S T A B C D : Type 0} (it : Ends S A) (jt : Ends T B) (v : A → C) (w : B → D) where
  abbrev Comes : List (EitherOrBoth C D) → SwapIterEitherOrBoth S T → Type 0
  Comes = SwapToCome it jt v w

  pub swap_comes_back : (zs : List (EitherOrBoth C D)) (s : SwapIterEitherOrBoth S T) (r : Option (EitherOrBoth A B)) (t : SwapIterEitherOrBoth S T) → Comes zs s
      → swap_steps_back it.next_back_gives jt.next_back_gives it.remaining jt.remaining s r t
      → LastTaken (map_places v w) Comes zs r t
  swap_comes_back zs s r t h e = subst (λ l. LastTaken (map_places v w) Comes l r t) (sym h.4)
      (swap_back it.next_back_gives jt.next_back_gives v w (SideToCome IsExactly it v) (SideToCome IsExactly it v) (SideToCome IsExactly jt w) (SideToCome IsExactly jt w) Comes (λ p q t a b. (p, q, a, b, refl)) it.remaining jt.remaining
      (side_to_come_len it v) (side_to_come_len jt w) (λ xs o k. k) (λ ys o k. k) (side_to_come_back IsExactly it v) (side_to_come_back IsExactly jt w) h.0 h.1 s r t h.2 h.3 e)
