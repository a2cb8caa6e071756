-- The chain has the lists of its sides still to come, the left one first.
use Rattle.std.proofs.Common.{◌≡◌, ℕ, zero, suc, ◌+◌, List, [], ◌∷◌, ◌++◌, length, Option, Some, None, MatchOption, refl, sym, ap, ap₂, subst, ◌∙◌, append_assoc, append-nil, rules}
use Rattle.std.proofs.lemmas.List.{length-append}
use Rattle.std.specs.Iterator.{Count, at_most, count_add, AlwaysYields}
use Rattle.eob_both.specs.declared.iter.chain.ChainedIterEitherOrBoth.{ChainedIterEitherOrBoth}
use Rattle.eob_both.specs.Side.{side_steps, IsSideOf}
use Rattle.eob_both.specs.Ends.{Ends, FirstTaken, LastTaken, HasBound, HoldsFor, ToCome, StillToCome, SideToCome, PlaceToCome, SideYields}
use Rattle.eob_both.specs.Chain.{chain_left, chain_right, chain_steps, chain_steps_back, chain_ends, ChainYields, ChainToCome}
use Rattle.eob_both.proofs.EndsLemmas.{side_of_place}
use Rattle.eob_both.proofs.StepLemmas.{TakesFront, TakesBack, SideHolds, side_fewer, side_counted, side_callable, side_callable_back, side_front, side_back, side_of_all, side_to_come_back, side_yields_front}

-- of a side F holds before a call, and G after
module _ {S W A B : Type 0} (steps : S → Option A → S → Type 0) (v : A → B) (F G : List B → Option S → Type 0) (P : List B → W → Type 0) (t : W) (near far near' far' : Option S) (remains : (q : List B) (o : Option S) → F q o → G q o) (absent : G [] None) where
  pub turn_front : ((p q : List B) → G p near' → G q far' → P (p ++ q) t) → TakesFront steps v F G → (p q : List B) (r o : Option A) (kept : Option S) → F p near → F q far
      → side_steps steps near o kept → MatchOption o (side_steps steps far r near' × (far' ≡ None)) (λ x. (r ≡ Some x) × (near' ≡ kept) × (far' ≡ far)) → FirstTaken v P (p ++ q) r t
  turn_front next f p q r (Some x) kept a b e m =
      let l = f p near (Some x) kept a e in
      subst (λ y. FirstTaken v P (p ++ q) y t) (sym m.0) (l.0 ++ q, ap (λ z. z ++ q) l.1, next l.0 q (subst (G l.0) (sym m.1) l.2) (subst (G q) (sym m.2) (remains q far b)))
  turn_front next f p q None None kept a b e m =
      let l = f p near None kept a e in
      let k = f q far None near' b m.0 in
      (ap₂ (λ y z. y ++ z) l.0 k.0, next [] [] k.1 (subst (G []) (sym m.1) absent))
  turn_front next f p q (Some x) None kept a b e m =
      let l = f p near None kept a e in
      let k = f q far (Some x) near' b m.0 in
      (k.0, ap (λ z. z ++ q) l.0 ∙ k.1, subst (λ z. P z t) (append-nil k.0) (next k.0 [] k.2 (subst (G []) (sym m.1) absent)))

  pub turn_back : ((q p : List B) → G q near' → G p far' → P (p ++ q) t) → TakesBack steps v F G → (q p : List B) (r o : Option A) (kept : Option S) → F q near → F p far
      → side_steps steps near o kept → MatchOption o (side_steps steps far r near' × (far' ≡ None)) (λ x. (r ≡ Some x) × (near' ≡ kept) × (far' ≡ far)) → LastTaken v P (p ++ q) r t
  turn_back next f q p r (Some x) kept a b e m =
      let l = f q near (Some x) kept a e in
      subst (λ y. LastTaken v P (p ++ q) y t) (sym m.0) (p ++ l.0, ap (λ z. p ++ z) l.1 ∙ sym (append_assoc p l.0 (v x ∷ [])), next l.0 p (subst (G l.0) (sym m.1) l.2) (subst (G p) (sym m.2) (remains p far b)))
  turn_back next f q p None None kept a b e m =
      let l = f q near None kept a e in
      let k = f p far None near' b m.0 in
      (ap₂ (λ y z. y ++ z) k.0 l.0, next [] [] k.1 (subst (G []) (sym m.1) absent))
  turn_back next f q p (Some x) None kept a b e m =
      let l = f q near None kept a e in
      let k = f p far (Some x) near' b m.0 in
      (k.0, ap (λ z. p ++ z) l.0 ∙ append-nil p ∙ k.1, next k.0 [] k.2 (subst (G []) (sym m.1) absent))

-- a C that holds of no items, and of the items of two iterators together
module _ {S A B : Type 0} (C : Count → ℕ → Type 0) (none : C (at_most 0) 0) (adds : (c d : Count) (n m : ℕ) → C c n → C d m → C (count_add c d) (n + m)) (it : Ends S A) (v : A → B) where
  abbrev Holds : ℕ → List B → ChainedIterEitherOrBoth S → Type 0
  Holds = HoldsFor C (chain_ends it) v

  chain_holds : (n : ℕ) (p q : List B) (s : ChainedIterEitherOrBoth S) → SideHolds C it v n p (chain_left s) → SideHolds C it v n q (chain_right s) → Holds n (p ++ q) s
  chain_holds zero p q s a b = tt
  chain_holds (suc n) p q s a b = record {
    callable = (side_callable C it v n p (chain_left s) a, side_callable C it v n q (chain_right s) b);
    callable_back = (side_callable_back C it v n p (chain_left s) a, side_callable_back C it v n q (chain_right s) b);
    counted = subst (C ((chain_ends it).remaining s)) (sym (length-append p q)) (adds _ _ (length p) (length q) (side_counted C it v none n p (chain_left s) a) (side_counted C it v none n q (chain_right s) b));
    front = λ r t e. turn_front it.next_gives v (SideHolds C it v (suc n)) (SideHolds C it v n) (Holds n) t (chain_left s) (chain_right s) (chain_left t) (chain_right t) (side_fewer C it v n) refl
        (λ p' q' a' b'. chain_holds n p' q' t a' b') (side_front C it v n) p q r e.0 e.1 a b e.2 e.3;
    back = λ r t e. turn_back it.next_back_gives v (SideHolds C it v (suc n)) (SideHolds C it v n) (Holds n) t (chain_right s) (chain_left s) (chain_right t) (chain_left t) (side_fewer C it v n) refl
        (λ q' p' b' a'. chain_holds n p' q' t a' b') (side_back C it v n) q p r e.0 e.1 b a e.2 e.3;
  }

  chain_of_sides : (p q : List B) (s : ChainedIterEitherOrBoth S) → SideToCome C it v p (chain_left s) → SideToCome C it v q (chain_right s) → ToCome C (chain_ends it) v (p ++ q) s
  chain_of_sides p q s a b = record { after = λ n. chain_holds n p q s (side_of_all C it v p (chain_left s) a n) (side_of_all C it v q (chain_right s) b n) }

finite_adds : (c d : Count) (n m : ℕ) → HasBound c n → HasBound d m → HasBound (count_add c d) (n + m)
finite_adds c d n m a b = search rules

module _ {S A B : Type 0} (it : Ends S A) (v : A → B) where
  -- where the sides have p and q still to come, the chain has p and then q
  pub chain_to_come : (p q : List B) (s : ChainedIterEitherOrBoth S) → SideToCome HasBound it v p (chain_left s) → SideToCome HasBound it v q (chain_right s) → StillToCome (chain_ends it) v (p ++ q) s
  chain_to_come = chain_of_sides HasBound tt finite_adds it v

-- where the places of a pair are to give p and q, the chain that is made of them has p and then q still to come
pub chain_of_places : {X S A B : Type 0} (gives : X → S → Type 0) (it : Ends S A) (v : A → B) (p q : List B) (place other : Option X) (s : ChainedIterEitherOrBoth S) → PlaceToCome gives HasBound it v p place → PlaceToCome gives HasBound it v q other
    → IsSideOf gives place (chain_left s) → IsSideOf gives other (chain_right s)
    → StillToCome (chain_ends it) v (p ++ q) s
chain_of_places gives it v p q place other s a b made made' = chain_to_come it v p q s (side_of_place gives HasBound it v p place (chain_left s) a made) (side_of_place gives HasBound it v q other (chain_right s) b made')

head_same : {B : Type 0} {x y : B} {xs ys : List B} → x ∷ xs ≡ y ∷ ys → x ≡ y
head_same e = cc

tail_same : {B : Type 0} {x y : B} {xs ys : List B} → x ∷ xs ≡ y ∷ ys → xs ≡ ys
tail_same e = cc

module _ {S A B : Type 0} (steps : S → Option A → S → Type 0) (v : A → B) where
  pub chain_yields_front : (zs : List B) (s : ChainedIterEitherOrBoth S) (r : Option A) (t : ChainedIterEitherOrBoth S) → ChainYields steps v zs s → chain_steps steps s r t → FirstTaken v (ChainYields steps v) zs r t
  chain_yields_front zs s r t h e = subst (λ l. FirstTaken v (ChainYields steps v) l r t) (sym h.4)
      (turn_front steps v (SideYields steps v) (SideYields steps v) (ChainYields steps v) t (chain_left s) (chain_right s) (chain_left t) (chain_right t) (λ q o k. k) refl
      (λ p q a b. (p, q, a, b, refl)) (side_yields_front steps v) h.0 h.1 r e.0 e.1 h.2 h.3 e.2 e.3)

  -- taken forward, the chain gives the left list and then the right one
  pub chain_always : (zs : List B) (s : ChainedIterEitherOrBoth S) → ChainYields steps v zs s → AlwaysYields (chain_steps steps) v s zs
  chain_always [] s h = λ x j e. let k = (chain_yields_front [] s (Some x) j h e).1 in cc
  chain_always (z ∷ zs) s h = (
    λ j e. let k = (chain_yields_front (z ∷ zs) s None j h e).0 in cc,
    λ x j e. let k = chain_yields_front (z ∷ zs) s (Some x) j h e in (head_same (sym k.1), chain_always zs j (subst (λ l. ChainYields steps v l j) (tail_same (sym k.1)) k.2)),
  )

module _ {S A B : Type 0} (it : Ends S A) (v : A → B) where
  pub chain_comes_back : (zs : List B) (s : ChainedIterEitherOrBoth S) (r : Option A) (t : ChainedIterEitherOrBoth S) → ChainToCome it v zs s → chain_steps_back it.next_back_gives s r t → LastTaken v (ChainToCome it v) zs r t
  chain_comes_back zs s r t h e = subst (λ l. LastTaken v (ChainToCome it v) l r t) (sym h.4)
      (turn_back it.next_back_gives v (SideToCome HasBound it v) (SideToCome HasBound it v) (ChainToCome it v) t (chain_right s) (chain_left s) (chain_right t) (chain_left t) (λ p o k. k) refl
      (λ q p b a. (p, q, a, b, refl)) (side_to_come_back HasBound it v) h.1 h.0 r e.0 e.1 h.3 h.2 e.2 e.3)
