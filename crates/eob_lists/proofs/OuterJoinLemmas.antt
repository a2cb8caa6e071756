-- A run of the walk over two sides, read back to runs of those: it gives the list that the loop of a join makes of their items.
use Rattle.std.proofs.Common.{◌≡◌, ◌∙◌, ◌+◌, ◌≤◌, Bool, true, false, List, [], ◌∷◌, length, Option, Some, None, T, arith, refl, sym, ap, ap₂, subst}
use Rattle.std.proofs.iter.runs.Made.{run, took}
use Rattle.std.proofs.lemmas.List.{length-map}
use Rattle.std.specs.Cmp.{IsTotalOrder}
use Rattle.std.specs.Iterator.{Count, DrainsIf, IsFinite, MakesProgress, count_add}
use Rattle.std.specs.Iterator.Runs.{SomeRun, EachRunFrom}
use Rattle.std.specs.declared.cmp.Ordering.{Ordering}
use Rattle.std.specs.declared.cmp.Ordering.TheVariants.{Less, Greater}
use Rattle.eob_both.specs.declared.either_or_both.EitherOrBoth.{EitherOrBoth}
use Rattle.eob_both.specs.declared.either_or_both.EitherOrBoth.TheVariants.{Left, Both, Right}
use Rattle.eob_lists.specs.declared.join.walk.JoinedPairs.{JoinedPairs}
use Rattle.eob_lists.specs.Join.{IsJoin}
use Rattle.eob_lists.specs.JoinLaws.{IsCallRun}
use Rattle.eob_lists.specs.OuterJoin.{StepsFrom, join_steps, held_remaining, IsJoinRun}
use Rattle.eob_lists.proofs.MergeLemmas.{by_order, merge, place, IsJoin-merge}

pub some_same : {X : Type 0} (x y : X) → Some x ≡ Some y → x ≡ y
some_same x y e = cc

pub none_some : {X : Type 0} (x : X) → None ≡ Some x → ⊥
none_some x e = cc

never : false ≡ true → ⊥
never e = cc

pub call_run : {S A : Type 0} (steps : S → Option A → S → Type 0) (s : S) (r : Option A) (t : S) → steps s r t → IsCallRun steps s r
call_run steps s None t h = (run steps s [] true (s, refl, λ w. (t, h)), refl, (refl, refl))
call_run steps s (Some x) t h = (run steps s (x ∷ []) false (t, (t, h, refl), λ e. absurd (never e)), refl, (refl, refl))

-- a side that holds o beside its iterator s gave xs, and where c is true it holds none then
abbrev pub HeldDrains : {S X : Type 0} → (S → Option X → S → Type 0) → Option X → S → List X → Bool → Type 0
HeldDrains steps o s [] c = c ≡ true → o ≡ None
HeldDrains {S} {X} steps o s (x ∷ xs) c = (o ≡ Some x) × (r : Option X) × (t : S) × steps s r t × HeldDrains steps r t xs c

module _ {S X : Type 0} (steps : S → Option X → S → Type 0) where
  -- a side that holds none gave none
  ended : (o : Option X) (s : S) (xs : List X) (c : Bool) → o ≡ None → HeldDrains steps o s xs c → xs ≡ []
  ended o s [] c e h = refl
  ended o s (x ∷ xs) c e h = let k : Some x ≡ None = sym h.0 ∙ e in absurd (cc)

  -- what a side gave, its iterator gave from before the first item was taken
  from_first : (s t : S) (o : Option X) → steps s o t → (xs : List X) (c : Bool) → HeldDrains steps o t xs c → DrainsIf steps (c ≡ true) s xs
  from_first s t o e [] c h = (s, refl, λ w. (t, subst (λ r. steps s r t) (h w) e))
  from_first s t o e (x ∷ xs) c h =
      let k = from_first t h.2 h.1 h.3 xs c h.4 in
      (k.0, (t, subst (λ r. steps s r t) h.0 e, k.1), k.2)

  -- the first item is the one that is held
  first_held : (o : Option X) (s : S) (x y : X) (xs : List X) (c : Bool) → o ≡ Some x → HeldDrains steps o s (y ∷ xs) c → y ≡ x
  first_held o s x y xs c e h = some_same y x (sym h.0 ∙ e)

  kept : (o r : Option X) (s t : S) (xs : List X) (c : Bool) → o ≡ r → s ≡ t → HeldDrains steps o s xs c → HeldDrains steps r t xs c
  kept o r s t xs c e f h = subst (λ q. HeldDrains steps q t xs c) e (subst (λ j. HeldDrains steps o j xs c) f h)

-- a side ends where its iterator does
held_finite : {S X : Type 0} (can : S → Type 0) (left : S → Count) (s t : S) (o : Option X) → MakesProgress can left s o t → IsFinite (left s) → IsFinite (held_remaining o (left t))
held_finite can left s t None m f = tt
held_finite can left s t (Some x) m f = (m.on f).1

sum_finite : (a b : Count) → IsFinite a → IsFinite b → IsFinite (count_add a b)
sum_finite a b f g = rw (is_true a.bounded f) g
  where
    is_true : (b : Bool) → T b → b ≡ true
    is_true true h = refl
    is_true false h = absurd h

-- and a walk ends where both its iterators do
pub join_finite : {S X U Y : Type 0} (can : S → Type 0) (left : S → Count) (s t : S) (o : Option X) (may : U → Type 0) (right : U → Count) (u v : U) (r : Option Y)
    → MakesProgress can left s o t → MakesProgress may right u r v → IsFinite (left s) → IsFinite (right u) → IsFinite (count_add (held_remaining o (left t)) (held_remaining r (right v)))
join_finite can left s t o may right u v r m n f g = sum_finite (held_remaining o (left t)) (held_remaining r (right v)) (held_finite can left s t o m f) (held_finite may right u v r n g)

module _ {K A B : Type 0} (cmp : K → K → Ordering) where
  -- the list that the loop makes is as long as either list at least, and as both at most
  abbrev Bounds : List (K × A) → List (K × B) → List (K × EitherOrBoth A B) → Type 0
  Bounds xs ys zs = (length xs ≤ length zs) × (length ys ≤ length zs) × (length zs ≤ length xs + length ys)

  place_bounds : (x : K × A) (xs : List (K × A)) (after : List (K × B) → List (K × EitherOrBoth A B)) → ((ys : List (K × B)) → Bounds xs ys (after ys))
      → (ys : List (K × B)) → Bounds (x ∷ xs) ys (place cmp x after ys)
  place_bounds x xs after go [] = let h = go [] in (omega (arith, h.0), omega arith, omega (arith, h.2))
  place_bounds x xs after go (y ∷ ys) =
      by_order (cmp x.0 y.0)
      (λ e. let h = go (y ∷ ys) in rw e (omega (arith, h.0), omega (arith, h.1), omega (arith, h.2)))
      (λ e. let h = go ys in rw e (omega (arith, h.0), omega (arith, h.1), omega (arith, h.2)))
      (λ e. let h = place_bounds x xs after go ys in rw e (omega (arith, h.0), omega (arith, h.1), omega (arith, h.2)))

  merge_bounds : (xs : List (K × A)) (ys : List (K × B)) → Bounds xs ys (merge cmp xs ys)
  merge_bounds [] ys = let e = length-map {B = K × EitherOrBoth A B} ys (λ y. (y.0, Right y.1)) in (omega arith, omega (arith, e), omega (arith, e))
  merge_bounds (x ∷ xs) ys = place_bounds x xs (merge cmp xs) (λ zs. merge_bounds xs zs) ys

module _ {I J K A B : Type 0} (cmp : K → K → Ordering) (firsts : I → Option (K × A) → I → Type 0) (seconds : J → Option (K × B) → J → Type 0) where
  abbrev Walk : Type 0
  Walk = JoinedPairs I J (K × A) (K × B)

  -- the sides of w gave two lists, of which zs is the list that the loop makes, and where b is true both had ended
  abbrev Parts : List (K × EitherOrBoth A B) → Bool → Walk → Type 0
  Parts zs b w = (xs : List (K × A)) × (ys : List (K × B)) × HeldDrains firsts w.left w.lefts xs b × HeldDrains seconds w.right w.rights ys b × (zs ≡ merge cmp xs ys)

  less_on : (x : K × A) (y : K × B) (xs : List (K × A)) (ys : List (K × B)) (o : Option (K × B)) (t : J) (b : Bool) → cmp x.0 y.0 ≡ Less → o ≡ Some y → HeldDrains seconds o t ys b
      → (x.0, Left x.1) ∷ merge cmp xs ys ≡ merge cmp (x ∷ xs) ys
  less_on x y xs [] o t b e held h = refl
  less_on x y xs (z ∷ ys) o t b e held h =
      let d : cmp x.0 z.0 ≡ Less = ap (λ (n : K × B). cmp x.0 n.0) (first_held seconds o t y z ys b held h) ∙ e in
      rw d refl

  greater_on : (x : K × A) (y : K × B) (xs : List (K × A)) (ys : List (K × B)) (o : Option (K × A)) (s : I) (b : Bool) → cmp x.0 y.0 ≡ Greater → o ≡ Some x → HeldDrains firsts o s xs b
      → (y.0, Right y.1) ∷ merge cmp xs ys ≡ merge cmp xs (y ∷ ys)
  greater_on x y [] ys o s b e held h = refl
  greater_on x y (z ∷ xs) ys o s b e held h =
      let d : cmp z.0 y.0 ≡ Greater = ap (λ (n : K × A). cmp n.0 y.0) (first_held firsts o s x z xs b held h) ∙ e in
      rw d refl

  step_on : (l : Option (K × A)) (r : Option (K × B)) (z : K × EitherOrBoth A B) (zs : List (K × EitherOrBoth A B)) (b : Bool) (w j : Walk) → w.left ≡ l → w.right ≡ r
      → StepsFrom cmp firsts seconds l r w (Some z) j → Parts zs b j → Parts (z ∷ zs) b w
  step_on None None z zs b w j l r e h = let k : Some z ≡ None = e.0 in absurd (cc)
  step_on (Some x) None z zs b w j l r e h =
      let same : z ≡ (x.0, Left x.1) = some_same z (x.0, Left x.1) e.0 in
      let none : h.1 ≡ [] = ended seconds j.right j.rights h.1 b (e.2.0 ∙ r) h.3 in
      (x ∷ h.0, [], (l, j.left, j.lefts, e.1, h.2), (λ q. r), ap₂ (λ a k. a ∷ k) same (h.4 ∙ ap (merge cmp h.0) none))
  step_on None (Some y) z zs b w j l r e h =
      let same : z ≡ (y.0, Right y.1) = some_same z (y.0, Right y.1) e.0 in
      let none : h.0 ≡ [] = ended firsts j.left j.lefts h.0 b (e.1.0 ∙ l) h.2 in
      ([], y ∷ h.1, (λ q. l), (r, j.right, j.rights, e.2, h.3), ap₂ (λ a k. a ∷ k) same (h.4 ∙ ap (λ k. merge cmp k h.1) none))
  step_on (Some x) (Some y) z zs b w j l r e h =
      by_order (cmp x.0 y.0)
      (λ d.
      let s = rw d at e in
      let same : z ≡ (x.0, Left x.1) = some_same z (x.0, Left x.1) s.0 in
      let waits : HeldDrains seconds w.right w.rights h.1 b = kept seconds j.right w.right j.rights w.rights h.1 b s.2.0 s.2.1 h.3 in
      (x ∷ h.0, h.1, (l, j.left, j.lefts, s.1, h.2), waits, ap₂ (λ a k. a ∷ k) same h.4 ∙ less_on x y h.0 h.1 w.right w.rights b d r waits))
      (λ d.
      let s = rw d at e in
      let same : z ≡ (x.0, Both x.1 y.1) = some_same z (x.0, Both x.1 y.1) s.0 in
      (x ∷ h.0, y ∷ h.1, (l, j.left, j.lefts, s.1, h.2), (r, j.right, j.rights, s.2, h.3), rw d (ap₂ (λ a k. a ∷ k) same h.4)))
      (λ d.
      let s = rw d at e in
      let same : z ≡ (y.0, Right y.1) = some_same z (y.0, Right y.1) s.0 in
      let waits : HeldDrains firsts w.left w.lefts h.0 b = kept firsts j.left w.left j.lefts w.lefts h.0 b s.1.0 s.1.1 h.2 in
      (h.0, y ∷ h.1, waits, (r, j.right, j.rights, s.2, h.3), ap₂ (λ a k. a ∷ k) same h.4 ∙ greater_on x y h.0 h.1 w.left w.lefts b d l waits))

  pub both_ended : (l : Option (K × A)) (r : Option (K × B)) (w u : Walk) → w.left ≡ l → w.right ≡ r → StepsFrom cmp firsts seconds l r w None u → (w.left ≡ None) × (w.right ≡ None)
  both_ended None None w u l r e = (l, r)
  both_ended (Some x) None w u l r e = absurd (none_some (x.0, Left x.1) e.0)
  both_ended None (Some y) w u l r e = absurd (none_some (y.0, Right y.1) e.0)
  both_ended (Some x) (Some y) w u l r e =
      by_order (cmp x.0 y.0)
      (λ d. let s = rw d at e in absurd (none_some (x.0, Left x.1) s.0))
      (λ d. let s = rw d at e in absurd (none_some (x.0, Both x.1 y.1) s.0))
      (λ d. let s = rw d at e in absurd (none_some (y.0, Right y.1) s.0))

  parts : (zs : List (K × EitherOrBoth A B)) (b : Bool) (w : Walk) → DrainsIf (join_steps cmp firsts seconds) (b ≡ true) w zs → Parts zs b w
  parts [] false w k = ([], [], (λ e. absurd (never e)), (λ e. absurd (never e)), refl)
  parts [] true w k =
      let u = (k.2 refl).0 in
      let e = subst (λ j. join_steps cmp firsts seconds j None u) (sym k.1) (k.2 refl).1 in
      let ends = both_ended w.left w.right w u refl refl e in
      ([], [], (λ q. ends.0), (λ q. ends.1), refl)
  parts (z ∷ zs) b w k = step_on w.left w.right z zs b w k.1.0 refl refl k.1.1 (parts zs b k.1.0 (k.0, k.1.2, k.2))

  -- behind each run of a walk stand runs of the iterators that it was made of
  pub join_runs : IsTotalOrder cmp → (w : Walk) (s : I) (t : J) → firsts s w.left w.lefts → seconds t w.right w.rights
      → EachRunFrom (join_steps cmp firsts seconds) w (λ p. SomeRun firsts s (λ a. SomeRun seconds t (λ b. IsJoinRun cmp p a b)))
  join_runs o w s t f g p _ from =
      let h = subst (Parts p.items p.whole) from (parts p.items p.whole p.from (took p)) in
      let bounds = merge_bounds cmp h.0 h.1 in
      let long : p.len ≡ length (merge cmp h.0 h.1) = p.long ∙ ap length h.4 in (
        run firsts s h.0 p.whole (from_first firsts s w.lefts w.left f h.0 p.whole h.2),
        refl,
        (
          run seconds t h.1 p.whole (from_first seconds t w.rights w.right g h.1 p.whole h.3),
          refl,
          (
            omega (arith, long, bounds.0),
            omega (arith, long, bounds.1),
            omega (arith, long, bounds.2),
            (λ e. (e, e)),
            λ up_p up_q. subst (IsJoin cmp h.0 h.1) (sym h.4) (IsJoin-merge cmp o h.0 h.1 up_p up_q),
          ),
        ),
      )
