-- A run of a walk over two sides, read back to a run of one of them: where the side has no item at a place that the walk reached, it had ended.
use Rattle.std.proofs.Common.{◌≡◌, ◌∙◌, ℕ, zero, suc, ◌<◌, Bool, true, false, List, [], ◌∷◌, ◌++◌, length, slice_get, Option, Some, None, refl, sym, ap, subst, arith}
use Rattle.std.proofs.iter.runs.Made.{run, took, at-is}
use Rattle.std.specs.Iterator.{DrainsIf}
use Rattle.std.specs.Iterator.Runs.{Run, SomeRun}
use Rattle.std.specs.Option.{option_to_list}
use Rattle.eob_both.specs.Side.{side_steps}

never : false ≡ true → ⊥
never e = cc

some_none : {X : Type 0} (x : X) → Some x ≡ None → ⊥
some_none x e = cc

module _ {S A : Type 0} (steps : S → Option A → S → Type 0) where
  -- calls of a side gave xs, and where c is true then None; one that is absent gives none
  abbrev SideDrains : Option S → List A → Bool → Type 0
  SideDrains None xs c = xs ≡ []
  SideDrains (Some s) xs c = DrainsIf steps (c ≡ true) s xs

  side_done : (o : Option S) (after : Option S) → side_steps steps o None after → SideDrains o [] true
  side_done None after e = refl
  side_done (Some s) after e = (s, refl, λ _. e.0)

  side_idle : (o : Option S) → SideDrains o [] false
  side_idle None = refl
  side_idle (Some s) = (s, refl, λ e. absurd (never e))

  side_empty : (o after : Option S) (xs : List A) (c : Bool) → side_steps steps o None after → SideDrains after xs c → xs ≡ []
  side_empty None after xs c e h = subst (λ a. SideDrains a xs c) e.1 h
  side_empty (Some s) after xs c e h = subst (λ a. SideDrains a xs c) e.1 h

  side_more : (o : Option S) (x : A) (after : Option S) (xs : List A) (c : Bool) → side_steps steps o (Some x) after → SideDrains after xs c → SideDrains o (x ∷ xs) c
  side_more None x after xs c e h = absurd (let k = e.0 in cc)
  side_more (Some s) x after xs c e h =
      let k : DrainsIf steps (c ≡ true) e.0 xs = subst (λ a. SideDrains a xs c) e.2 h in
      (k.0, (e.0, e.1, k.1), k.2)

-- W is the walk, and each call of it calls the side for one place of its item
module _ {W Z S A : Type 0} (walks : W → Option Z → W → Type 0) (steps : S → Option A → S → Type 0) (side : W → Option S) (place : Option Z → Option A) (none : place None ≡ None)
    (asks : (w : W) (r : Option Z) (u : W) → walks w r u → side_steps steps (side w) (place r) (side u)) where
  -- what the side gave while the walk gave zs
  record Gave (zs : List Z) (b : Bool) (w : W) : Type 0 where
    items : List A
    whole : Bool
    drains : SideDrains steps (side w) items whole
    at : (k : ℕ) → place (slice_get zs k) ≡ slice_get items k
    ends : (k : ℕ) → k < length zs → slice_get items k ≡ None → whole ≡ true
    with_walk : b ≡ true → whole ≡ true

  one_more : (o : Option A) (z : Z) (zs : List Z) (b : Bool) (w j : W) → place (Some z) ≡ o → side_steps steps (side w) o (side j) → Gave zs b j → Gave (z ∷ zs) b w
  one_more None z zs b w j e h g =
      record {
        items = [];
        whole = true;
        drains = side_done steps (side w) (side j) h;
        at = at;
        ends = λ k lt n. refl;
        with_walk = λ t. refl;
      } where
        at : (k : ℕ) → place (slice_get (z ∷ zs) k) ≡ slice_get {X = A} [] k
        at zero = e
        at (suc k) = g.at k ∙ ap (λ l. slice_get l k) (side_empty steps (side w) (side j) g.items g.whole h g.drains)
  one_more (Some x) z zs b w j e h g =
      record {
        items = x ∷ g.items;
        whole = g.whole;
        drains = side_more steps (side w) x (side j) g.items g.whole h g.drains;
        at = at;
        ends = ends;
        with_walk = g.with_walk;
      } where
        at : (k : ℕ) → place (slice_get (z ∷ zs) k) ≡ slice_get (x ∷ g.items) k
        at zero = e
        at (suc k) = g.at k

        ends : (k : ℕ) → k < length (z ∷ zs) → slice_get (x ∷ g.items) k ≡ None → g.whole ≡ true
        ends zero lt n = absurd (some_none x n)
        ends (suc k) lt n = g.ends k (omega (arith, lt)) n

  gave : (zs : List Z) (b : Bool) (w : W) → DrainsIf walks (b ≡ true) w zs → Gave zs b w
  gave [] false w k = record {
    items = [];
    whole = false;
    drains = side_idle steps (side w);
    at = λ k. none;
    ends = λ k lt n. absurd (omega (arith, lt));
    with_walk = λ t. absurd (never t);
  }
  gave [] true w k =
      let u = (k.2 refl).0 in
      let e = subst (λ j. walks j None u) (sym k.1) (k.2 refl).1 in record {
        items = [];
        whole = true;
        drains = side_done steps (side w) (side u) (subst (λ o. side_steps steps (side w) o (side u)) none (asks w None u e));
        at = λ k. none;
        ends = λ k lt n. refl;
        with_walk = λ t. refl;
      }
  gave (z ∷ zs) b w k = one_more (place (Some z)) z zs b w k.1.0 refl (asks w (Some z) k.1.0 k.1.1) (gave zs b k.1.0 (k.0, k.1.2, k.2))

  -- behind a run of the walk stands a run of the side
  pub side_run : (w : W) (s : S) → side w ≡ Some s → (p : Run walks) → p.from ≡ w
      → SomeRun steps s (λ a. ((k : ℕ) → place (p.at k) ≡ a.at k) × ((k : ℕ) → k < p.len → a.at k ≡ None → a.whole ≡ true) × (p.whole ≡ true → a.whole ≡ true))
  side_run w s held p from =
      let g = gave p.items p.whole p.from (took p) in
      let d : DrainsIf steps (g.whole ≡ true) s g.items = subst (λ o. SideDrains steps o g.items g.whole) (ap side from ∙ held) g.drains in (
        run steps s g.items g.whole d,
        refl,
        ((λ k. ap place (at-is p k) ∙ g.at k), (λ k lt n. g.ends k (omega (arith, lt, p.long)) n), g.with_walk),
      )
