-- A run of a walk, read back to its sides.
use Rattle.std.proofs.Common.{◌≡◌, Bool, true, false, List, [], ◌∷◌, ◌++◌, map, length, slice_get, Option, Some, None, MatchOption, IsSomeAnd, refl, sym, ap, ap₂, subst, ◌∙◌, append-nil, arith}
use Rattle.std.proofs.lemmas.List.{length-append}
use Rattle.std.specs.Iterator.{DrainsIf}
use Rattle.std.specs.Iterator.Runs.{Run, SomeRun, EachRunFrom}
use Rattle.std.specs.Option.{option_to_list}
use Rattle.std.proofs.lemmas.Iterator.{YieldsList, items_from_drains}
use Rattle.std.proofs.iter.runs.Made.{run, took, at-is}
use Rattle.eob_both.specs.declared.either_or_both.EitherOrBoth.{EitherOrBoth}
use Rattle.eob_both.specs.declared.either_or_both.EitherOrBoth.TheVariants.{Left, Both, Right}
use Rattle.eob_both.specs.declared.iter.swap.SwapIterEitherOrBoth.{SwapIterEitherOrBoth}
use Rattle.eob_both.specs.declared.iter.chain.ChainedIterEitherOrBoth.{ChainedIterEitherOrBoth}
use Rattle.eob_both.specs.Places.{left_place, right_place, item_left, item_right, map_places}
use Rattle.eob_both.specs.Side.{side_steps, IsSideOf}
use Rattle.eob_both.specs.Swap.{swap_left, swap_right, swap_steps}
use Rattle.eob_both.specs.Chain.{chain_left, chain_right, chain_steps}
use Rattle.eob_both.specs.Aligned.{aligned}
use Rattle.eob_both.specs.Runs.{IsSwapRun, IsLeftRun, IsRightRun, SwapsRuns, IsInTurnRun, IsLoneRun, ChainsRuns}
use Rattle.eob_both.proofs.AlignedLemmas.{left_at, right_at, aligned-nil, length-aligned}

never : false ≡ true → ⊥
never e = cc

module _ {S A : Type 0} (steps : S → Option A → S → Type 0) where
  -- calls of a side gave xs, and where c is true then None
  abbrev SideDrains : Option S → List A → Bool → Type 0
  SideDrains None xs c = xs ≡ []
  SideDrains (Some s) xs c = DrainsIf steps (c ≡ true) s xs

  side_done : (o : Option S) (after : Option S) → side_steps steps o None after → SideDrains o [] true
  side_done None after e = refl
  side_done (Some s) after e = (s, refl, λ _. e.0)

  side_idle : (o : Option S) → SideDrains o [] false
  side_idle None = refl
  side_idle (Some s) = (s, refl, λ e. absurd (never e))

  side_empty : (o after : Option S) (xs : List A) (c : Bool) → side_steps steps o None after → SideDrains after xs c → xs ≡ []
  side_empty None after xs c e h = subst (λ a. SideDrains a xs c) e.1 h
  side_empty (Some s) after xs c e h = subst (λ a. SideDrains a xs c) e.1 h

  side_more : (o : Option S) (r : Option A) (after : Option S) (xs : List A) (c : Bool) → side_steps steps o r after → SideDrains after xs c → SideDrains o (option_to_list r ++ xs) c
  side_more None None after xs c e h = subst (λ a. SideDrains a xs c) e.1 h
  side_more None (Some x) after xs c e h = absurd (let k = e.0 in cc)
  side_more (Some s) None after xs c e h = subst (λ l. SideDrains (Some s) l c) (sym (subst (λ a. SideDrains a xs c) e.1 h)) (s, refl, λ _. e.0)
  side_more (Some s) (Some x) after xs c e h =
      let k : DrainsIf steps (c ≡ true) e.0 xs = subst (λ a. SideDrains a xs c) e.2 h in
      (k.0, (e.0, e.1, k.1), k.2)

module _ {S T A B : Type 0} (firsts : S → Option A → S → Type 0) (seconds : T → Option B → T → Type 0) where
  abbrev Walk : Type 0
  Walk = SwapIterEitherOrBoth S T

  abbrev Halves : List (EitherOrBoth A B) → Bool → Walk → Type 0
  Halves zs b s = (xs : List A) × (ys : List B) × (c : Bool) × (d : Bool) × SideDrains firsts (swap_left s) xs c × SideDrains seconds (swap_right s) ys d × (zs ≡ aligned xs ys) × (b ≡ true → (c ≡ true) × (d ≡ true))

  one_on : (z : EitherOrBoth A B) (zs : List (EitherOrBoth A B)) (b : Bool) (s j : Walk) → swap_steps firsts seconds s (Some z) j → Halves zs b j → Halves (z ∷ zs) b s
  one_on z zs b s j e h = (
    option_to_list (left_place z) ++ h.0,
    option_to_list (right_place z) ++ h.1,
    h.2,
    h.3,
    side_more firsts (swap_left s) (left_place z) (swap_left j) h.0 h.2 e.0 h.4,
    side_more seconds (swap_right s) (right_place z) (swap_right j) h.1 h.3 e.1 h.5,
    grows z e,
    h.7,
  ) where
    grows : (z : EitherOrBoth A B) → swap_steps firsts seconds s (Some z) j → z ∷ zs ≡ aligned (option_to_list (left_place z) ++ h.0) (option_to_list (right_place z) ++ h.1)
    grows (Left x) e =
        let n : h.1 ≡ [] = side_empty seconds (swap_right s) (swap_right j) h.1 h.3 e.1 h.5 in
        ap (λ l. Left x ∷ l) (h.6 ∙ ap (aligned h.0) n ∙ aligned-nil h.0) ∙ ap (aligned (x ∷ h.0)) (sym n)
    grows (Both x y) e = ap (λ l. Both x y ∷ l) h.6
    grows (Right y) e =
        let n : h.0 ≡ [] = side_empty firsts (swap_left s) (swap_left j) h.0 h.2 e.0 h.4 in
        ap (λ l. Right y ∷ l) (h.6 ∙ ap (λ l. aligned l h.1) n) ∙ ap (λ l. aligned l (y ∷ h.1)) (sym n)

  halves : (zs : List (EitherOrBoth A B)) (b : Bool) (s : Walk) → DrainsIf (swap_steps firsts seconds) (b ≡ true) s zs → Halves zs b s
  halves [] false s k = ([], [], false, false, side_idle firsts (swap_left s), side_idle seconds (swap_right s), refl, λ e. absurd (never e))
  halves [] true s k =
      let u = (k.2 refl).0 in
      let e = subst (λ j. swap_steps firsts seconds j None u) (sym k.1) (k.2 refl).1 in
      ([], [], true, true, side_done firsts (swap_left s) (swap_left u) e.0, side_done seconds (swap_right s) (swap_right u) e.1, refl, λ _. (refl, refl))
  halves (z ∷ zs) b s k = one_on z zs b s k.1.0 k.1.1 (halves zs b k.1.0 (k.0, k.1.2, k.2))

  both_runs : (z : Walk) (s : S) (t : T) → swap_left z ≡ Some s → swap_right z ≡ Some t → EachRunFrom (swap_steps firsts seconds) z (λ p. SomeRun firsts s (λ a. SomeRun seconds t (λ b. IsSwapRun p a b)))
  both_runs z s t l r p _ from =
      let h = halves p.items p.whole p.from (took p) in
      let a : DrainsIf firsts (h.2 ≡ true) s h.0 = subst (λ o. SideDrains firsts o h.0 h.2) (ap swap_left from ∙ l) h.4 in
      let b : DrainsIf seconds (h.3 ≡ true) t h.1 = subst (λ o. SideDrains seconds o h.1 h.3) (ap swap_right from ∙ r) h.5 in (
        run firsts s h.0 h.2 a,
        refl,
        (
          run seconds t h.1 h.3 b,
          refl,
          (
            p.long ∙ ap length h.6 ∙ length-aligned h.0 h.1,
            h.6,
            h.7,
            (λ k. ap item_left (at-is p k ∙ ap (λ l. slice_get l k) h.6) ∙ left_at h.0 h.1 k),
            λ k. ap item_right (at-is p k ∙ ap (λ l. slice_get l k) h.6) ∙ right_at h.0 h.1 k,
          ),
        ),
      )

  left_runs : (z : Walk) (s : S) → swap_left z ≡ Some s → swap_right z ≡ None → EachRunFrom (swap_steps firsts seconds) z (λ p. SomeRun firsts s (λ a. IsLeftRun p a))
  left_runs z s l r p _ from =
      let h = halves p.items p.whole p.from (took p) in
      let a : DrainsIf firsts (h.2 ≡ true) s h.0 = subst (λ o. SideDrains firsts o h.0 h.2) (ap swap_left from ∙ l) h.4 in
      let b : h.1 ≡ [] = subst (λ o. SideDrains seconds o h.1 h.3) (ap swap_right from ∙ r) h.5 in
      let e : p.items ≡ aligned h.0 [] = h.6 ∙ ap (aligned h.0) b in
      (run firsts s h.0 h.2 a, refl, (p.long ∙ ap length e ∙ let k = length-aligned {B = B} h.0 [] in omega (arith, k), e, λ w. (h.7 w).0))

  right_runs : (z : Walk) (t : T) → swap_left z ≡ None → swap_right z ≡ Some t → EachRunFrom (swap_steps firsts seconds) z (λ p. SomeRun seconds t (λ b. IsRightRun p b))
  right_runs z t l r p _ from =
      let h = halves p.items p.whole p.from (took p) in
      let a : h.0 ≡ [] = subst (λ o. SideDrains firsts o h.0 h.2) (ap swap_left from ∙ l) h.4 in
      let b : DrainsIf seconds (h.3 ≡ true) t h.1 = subst (λ o. SideDrains seconds o h.1 h.3) (ap swap_right from ∙ r) h.5 in
      let e : p.items ≡ aligned [] h.1 = h.6 ∙ ap (λ l. aligned l h.1) a in
      (run seconds t h.1 h.3 b, refl, (p.long ∙ ap length e ∙ let k = length-aligned {A = A} [] h.1 in omega (arith, k), e, λ w. (h.7 w).1))

  module _ {X Y : Type 0} (gives : X → S → Type 0) (others : Y → T → Type 0) where
    made : (o : Option S) (x : X) → IsSomeAnd o (gives x) → (s : S) × gives x s × (o ≡ Some s)
    made (Some s) x h = (s, h, refl)
    made None x h = elim h [ ]

    made' : (o : Option T) (y : Y) → IsSomeAnd o (others y) → (t : T) × others y t × (o ≡ Some t)
    made' (Some t) y h = (t, h, refl)
    made' None y h = elim h [ ]

    -- what `into_iter_swap` promises of the sides says what the runs of its walk are
    pub swap_runs : (v : EitherOrBoth X Y) (z : Walk) → IsSideOf gives (left_place v) (swap_left z) → IsSideOf others (right_place v) (swap_right z)
        → SwapsRuns gives others firsts seconds v z
    swap_runs (Left x) z l r = let a = made (swap_left z) x l in (a.0, a.1, a.2, r, left_runs z a.0 a.2 r)
    swap_runs (Both x y) z l r =
        let a = made (swap_left z) x l in
        let b = made' (swap_right z) y r in
        (a.0, b.0, a.1, b.1, a.2, b.2, both_runs z a.0 b.0 a.2 b.2)
    swap_runs (Right y) z l r = let b = made' (swap_right z) y r in (b.0, b.1, l, b.2, right_runs z b.0 l b.2)

-- the items of a whole run, where each run gives the list xs
pub whole_items : {S A B : Type 0} {steps : S → Option A → S → Type 0} {v : A → B} {s : S} {xs : List B} (p : Run steps) → p.from ≡ s → p.whole ≡ true → YieldsList steps v s xs → map v p.items ≡ xs
whole_items {steps = steps} p from w h =
    let d = subst (λ u. DrainsIf steps (p.whole ≡ true) u p.items) from (took p) in
    items_from_drains p.items (d.0, d.1, λ _. d.2 w) h

module _ {S A : Type 0} (steps : S → Option A → S → Type 0) where
  abbrev Chained : Type 0
  Chained = ChainedIterEitherOrBoth S

  abbrev Parts : List A → Bool → Chained → Type 0
  Parts zs b s = (xs : List A) × (ys : List A) × (c : Bool) × (d : Bool) × SideDrains steps (chain_left s) xs c × SideDrains steps (chain_right s) ys d × (zs ≡ xs ++ ys) × (b ≡ true → (c ≡ true) × (d ≡ true))

  part_on : (z : A) (zs : List A) (b : Bool) (s j : Chained) (o : Option A) (kept : Option S) → side_steps steps (chain_left s) o kept
      → MatchOption o (side_steps steps (chain_right s) (Some z) (chain_left j) × (chain_right j ≡ None)) (λ x. (Some z ≡ Some x) × (chain_left j ≡ kept) × (chain_right j ≡ chain_right s)) → Parts zs b j → Parts (z ∷ zs) b s
  part_on z zs b s j (Some x) kept e m h =
      let same : z ≡ x = let k = m.0 in cc in (
        x ∷ h.0,
        h.1,
        h.2,
        h.3,
        side_more steps (chain_left s) (Some x) kept h.0 h.2 e (subst (λ o. SideDrains steps o h.0 h.2) m.1 h.4),
        subst (λ o. SideDrains steps o h.1 h.3) m.2 h.5,
        ap₂ (λ y l. y ∷ l) same h.6,
        h.7,
      )
  part_on z zs b s j None kept e m h =
      let n : h.1 ≡ [] = subst (λ o. SideDrains steps o h.1 h.3) m.1 h.5 in (
        [],
        z ∷ h.0,
        true,
        h.2,
        side_done steps (chain_left s) kept e,
        side_more steps (chain_right s) (Some z) (chain_left j) h.0 h.2 m.0 h.4,
        ap (λ l. z ∷ l) (h.6 ∙ ap (λ l. h.0 ++ l) n ∙ append-nil h.0),
        λ w. (refl, (h.7 w).0),
      )

  parts_end : (s u : Chained) (o : Option A) (kept : Option S) → side_steps steps (chain_left s) o kept
      → MatchOption o (side_steps steps (chain_right s) None (chain_left u) × (chain_right u ≡ None)) (λ x. (None ≡ Some x) × (chain_left u ≡ kept) × (chain_right u ≡ chain_right s)) → Parts [] true s
  parts_end s u (Some x) kept e m = absurd (let k = m.0 in cc)
  parts_end s u None kept e m = ([], [], true, true, side_done steps (chain_left s) kept e, side_done steps (chain_right s) (chain_left u) m.0, refl, λ _. (refl, refl))

  parts : (zs : List A) (b : Bool) (s : Chained) → DrainsIf (chain_steps steps) (b ≡ true) s zs → Parts zs b s
  parts [] false s k = ([], [], false, false, side_idle steps (chain_left s), side_idle steps (chain_right s), refl, λ e. absurd (never e))
  parts [] true s k =
      let u = (k.2 refl).0 in
      let e = subst (λ j. chain_steps steps j None u) (sym k.1) (k.2 refl).1 in
      parts_end s u e.0 e.1 e.2 e.3
  parts (z ∷ zs) b s k = part_on z zs b s k.1.0 k.1.1.0 k.1.1.1 k.1.1.2 k.1.1.3 (parts zs b k.1.0 (k.0, k.1.2, k.2))

  in_turn_runs : (z : Chained) (s t : S) → chain_left z ≡ Some s → chain_right z ≡ Some t → EachRunFrom (chain_steps steps) z (λ p. SomeRun steps s (λ a. SomeRun steps t (λ b. IsInTurnRun p a b)))
  in_turn_runs z s t l r p _ from =
      let h = parts p.items p.whole p.from (took p) in
      let a : DrainsIf steps (h.2 ≡ true) s h.0 = subst (λ o. SideDrains steps o h.0 h.2) (ap chain_left from ∙ l) h.4 in
      let b : DrainsIf steps (h.3 ≡ true) t h.1 = subst (λ o. SideDrains steps o h.1 h.3) (ap chain_right from ∙ r) h.5 in
      (run steps s h.0 h.2 a, refl, (run steps t h.1 h.3 b, refl, (p.long ∙ ap length h.6 ∙ length-append h.0 h.1, h.6, h.7)))

  lone_left : (z : Chained) (s : S) → chain_left z ≡ Some s → chain_right z ≡ None → EachRunFrom (chain_steps steps) z (λ p. SomeRun steps s (λ a. IsLoneRun p a))
  lone_left z s l r p _ from =
      let h = parts p.items p.whole p.from (took p) in
      let a : DrainsIf steps (h.2 ≡ true) s h.0 = subst (λ o. SideDrains steps o h.0 h.2) (ap chain_left from ∙ l) h.4 in
      let b : h.1 ≡ [] = subst (λ o. SideDrains steps o h.1 h.3) (ap chain_right from ∙ r) h.5 in
      let e : p.items ≡ h.0 = h.6 ∙ ap (λ l. h.0 ++ l) b ∙ append-nil h.0 in
      (run steps s h.0 h.2 a, refl, (p.long ∙ ap length e, e, λ w. (h.7 w).0))

  lone_right : (z : Chained) (t : S) → chain_left z ≡ None → chain_right z ≡ Some t → EachRunFrom (chain_steps steps) z (λ p. SomeRun steps t (λ b. IsLoneRun p b))
  lone_right z t l r p _ from =
      let h = parts p.items p.whole p.from (took p) in
      let a : h.0 ≡ [] = subst (λ o. SideDrains steps o h.0 h.2) (ap chain_left from ∙ l) h.4 in
      let b : DrainsIf steps (h.3 ≡ true) t h.1 = subst (λ o. SideDrains steps o h.1 h.3) (ap chain_right from ∙ r) h.5 in
      let e : p.items ≡ h.1 = h.6 ∙ ap (λ l. l ++ h.1) a in
      (run steps t h.1 h.3 b, refl, (p.long ∙ ap length e, e, λ w. (h.7 w).1))

  module _ {X : Type 0} (gives : X → S → Type 0) where
    holder : (o : Option S) (x : X) → IsSomeAnd o (gives x) → (s : S) × gives x s × (o ≡ Some s)
    holder (Some s) x h = (s, h, refl)
    holder None x h = elim h [ ]

    -- what `into_iter_chain` promises of the sides says what the runs of its walk are
    pub chain_runs : (v : EitherOrBoth X X) (z : Chained) → IsSideOf gives (left_place v) (chain_left z) → IsSideOf gives (right_place v) (chain_right z)
        → ChainsRuns gives steps v z
    chain_runs (Left x) z l r = let a = holder (chain_left z) x l in (a.0, a.1, a.2, r, lone_left z a.0 a.2 r)
    chain_runs (Both x y) z l r =
        let a = holder (chain_left z) x l in
        let b = holder (chain_right z) y r in
        (a.0, b.0, a.1, b.1, a.2, b.2, in_turn_runs z a.0 b.0 a.2 b.2)
    chain_runs (Right y) z l r = let b = holder (chain_right z) y r in (b.0, b.1, l, b.2, lone_right z b.0 l b.2)

-- a pair of references, and what stands behind them: what a place of references was made into is made from a reference to the value there
module _ {P Q X Y S : Type 0} (now : P → X) (other : Q → Y) (gives : P → S → Type 0) where
  left_of_ref : (r : EitherOrBoth P Q) (o : Option S) → IsSideOf gives (left_place r) o → IsSideOf (λ x s. (p : P) × (now p ≡ x) × gives p s) (left_place (map_places now other r)) o
  left_of_ref (Left p) (Some s) h = (p, refl, h)
  left_of_ref (Left p) None h = elim h [ ]
  left_of_ref (Both p q) (Some s) h = (p, refl, h)
  left_of_ref (Both p q) None h = elim h [ ]
  left_of_ref (Right q) o h = h

  pub left_behind : (r : EitherOrBoth P Q) (v : EitherOrBoth X Y) (o : Option S) → map_places now other r ≡ v → IsSideOf gives (left_place r) o → IsSideOf (λ x s. (p : P) × (now p ≡ x) × gives p s) (left_place v) o
  left_behind r v o e h = subst (λ w. IsSideOf (λ x s. (p : P) × (now p ≡ x) × gives p s) (left_place w) o) e (left_of_ref r o h)

module _ {P Q X Y T : Type 0} (other : P → X) (now : Q → Y) (gives : Q → T → Type 0) where
  right_of_ref : (r : EitherOrBoth P Q) (o : Option T) → IsSideOf gives (right_place r) o → IsSideOf (λ y t. (q : Q) × (now q ≡ y) × gives q t) (right_place (map_places other now r)) o
  right_of_ref (Left p) o h = h
  right_of_ref (Both p q) (Some t) h = (q, refl, h)
  right_of_ref (Both p q) None h = elim h [ ]
  right_of_ref (Right q) (Some t) h = (q, refl, h)
  right_of_ref (Right q) None h = elim h [ ]

  pub right_behind : (r : EitherOrBoth P Q) (v : EitherOrBoth X Y) (o : Option T) → map_places other now r ≡ v → IsSideOf gives (right_place r) o → IsSideOf (λ y t. (q : Q) × (now q ≡ y) × gives q t) (right_place v) o
  right_behind r v o e h = subst (λ w. IsSideOf (λ y t. (q : Q) × (now q ≡ y) × gives q t) (right_place w) o) e (right_of_ref r o h)
