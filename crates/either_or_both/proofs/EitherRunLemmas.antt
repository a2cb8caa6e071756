-- A run of a walk of `Either`, read back to its held side.
use Rattle.std.proofs.Common.{◌≡◌, true, List, [], ◌∷◌, map, length, slice_get, Option, Some, None, refl, sym, ap, ap₂, subst, ◌∙◌}
use Rattle.std.proofs.lemmas.List.{length-map}
use Rattle.std.proofs.lemmas.Option.{slice_get-map}
use Rattle.std.specs.Option.{option_map}
use Rattle.std.specs.Iterator.{Yields, DrainsIf}
use Rattle.std.specs.Iterator.Runs.{SomeRun, EachRunFrom, IsIdenticalRun}
use Rattle.std.proofs.iter.runs.Made.{run, took, at-is}
use Rattle.eob_both.specs.Places.{MapsPlace}
use Rattle.either_or_both.specs.declared.either.Either.{Either}
use Rattle.either_or_both.specs.declared.either.Either.TheVariants.{Left, Right}
use Rattle.either_or_both.specs.declared.iter_either.inner.InnerIterEither.{InnerIterEither}
use Rattle.either_or_both.specs.declared.iter_either.swap.SwapIterEither.{SwapIterEither}
use Rattle.either_or_both.specs.Either.{left_place, right_place, held, item_left, item_right, map_places, MatchPlaces}
use Rattle.either_or_both.specs.EitherInner.{inner_held, inner_side, inner_steps}
use Rattle.either_or_both.specs.EitherSwap.{swap_side, held_swap_steps}
use Rattle.either_or_both.specs.EitherRuns.{IsWrappedRun, InnerRuns, SwapRuns}

module _ {S A : Type 0} (steps : S → Option A → S → Type 0) where
  held_gave : (xs : List A) (z t : InnerIterEither S) → Yields (inner_steps steps) z xs t → Yields steps (inner_held z) xs (inner_held t)
  held_gave [] z t e = ap inner_held e
  held_gave (x ∷ xs) z t h = (inner_held h.0, h.1, held_gave xs h.0 t h.2)

  held_drains : (W : Type 0) (xs : List A) (z : InnerIterEither S) → DrainsIf (inner_steps steps) W z xs → DrainsIf steps W (inner_held z) xs
  held_drains W xs z h = (inner_held h.0, held_gave xs z h.0 h.1, λ w. let k = h.2 w in (inner_held k.0, k.1))

  -- behind each run of the inner walk stands the same run of the held side
  pub inner_runs : (z : InnerIterEither S) (s : S) → inner_held z ≡ s → EachRunFrom (inner_steps steps) z (λ p. SomeRun steps s (λ a. IsIdenticalRun p a))
  inner_runs z s e p _ from =
      let a : DrainsIf steps (p.whole ≡ true) s p.items = subst (λ u. DrainsIf steps (p.whole ≡ true) u p.items) (ap inner_held from ∙ e) (held_drains (p.whole ≡ true) p.items p.from (took p)) in
      (run steps s p.items p.whole a, refl, ((sym p.long, refl, λ k. sym (at-is p k)), refl))

  -- and the walk is one over what a value was made into
  pub inner_made : {X : Type 0} (gives : X → S → Type 0) (v : Either X X) (z : InnerIterEither S) → gives (held v) (inner_held z)
      → inner_side z ≡ map_places (λ _. inner_held z) (λ _. inner_held z) v → InnerRuns gives steps v z
  inner_made gives v z h e = (inner_held z, h, refl, e, inner_runs z (inner_held z) refl)

-- a side in the variant of some references is in that of what they point to
pub variant_behind : {P X S : Type 0} (now : P → X) (r : Either P P) (v : Either X X) → map_places now now r ≡ v → (i : Either S S) (s : S) → i ≡ map_places (λ _. s) (λ _. s) r
    → i ≡ map_places (λ _. held i) (λ _. held i) v
variant_behind now (Left p) v e i s h = subst (λ w. i ≡ map_places (λ _. held i) (λ _. held i) w) e (h ∙ ap (λ k. Left k) (sym (ap held h)))
variant_behind now (Right p) v e i s h = subst (λ w. i ≡ map_places (λ _. held i) (λ _. held i) w) e (h ∙ ap (λ k. Right k) (sym (ap held h)))

-- what a reference to the held side was made into is made from a reference to the value there
pub held_behind : {P X S : Type 0} (now : P → X) (gives : P → S → Type 0) (r : Either P P) (v : Either X X) (s : S) → map_places now now r ≡ v → gives (held r) s → (p : P) × (now p ≡ held v) × gives p s
held_behind now gives (Left p) v s e h = (p, ap held e, h)
held_behind now gives (Right p) v s e h = (p, ap held e, h)

module _ {S T A B : Type 0} (firsts : S → Option A → S → Type 0) (seconds : T → Option B → T → Type 0) where
  abbrev Walk : Type 0
  Walk = SwapIterEither S T

  pub left_move : (r : Option (Either A B)) (z j : Walk) (s : S) → swap_side z ≡ Left s → held_swap_steps firsts seconds z r j → (b : S) × (swap_side j ≡ Left b) × firsts s (item_left r) b × (item_right r ≡ None)
  left_move r z j s e h = subst (λ o. MatchPlaces o (λ a. (b : S) × (swap_side j ≡ Left b) × firsts a (item_left r) b × (item_right r ≡ None)) (λ a. (b : T) × (swap_side j ≡ Right b) × seconds a (item_right r) b × (item_left r ≡ None))) e h

  left_step : (i : Either A B) (z j : Walk) (s : S) → swap_side z ≡ Left s → held_swap_steps firsts seconds z (Some i) j → (b : S) × (x : A) × (swap_side j ≡ Left b) × firsts s (Some x) b × (i ≡ Left x)
  left_step (Left x) z j s e h = let k = left_move (Some (Left x)) z j s e h in (k.0, x, k.1, k.2, refl)
  left_step (Right y) z j s e h = absurd (let k = (left_move (Some (Right y)) z j s e h).3 in cc)

  left_gave : (zs : List (Either A B)) (z t : Walk) (s : S) → swap_side z ≡ Left s → Yields (held_swap_steps firsts seconds) z zs t → (xs : List A) × (u : S) × (swap_side t ≡ Left u) × Yields firsts s xs u × (zs ≡ map (λ i. Left i) xs)
  left_gave [] z t s e h = ([], s, subst (λ w. swap_side w ≡ Left s) h e, refl, refl)
  left_gave (i ∷ zs) z t s e h =
      let k = left_step i z h.0 s e h.1 in
      let rest = left_gave zs h.0 t k.0 k.2 h.2 in
      (k.1 ∷ rest.0, rest.1, rest.2, (k.0, k.3, rest.3), ap₂ (λ x l. x ∷ l) k.4 rest.4)

  left_drains : (W : Type 0) (zs : List (Either A B)) (z : Walk) (s : S) → swap_side z ≡ Left s → DrainsIf (held_swap_steps firsts seconds) W z zs → (xs : List A) × DrainsIf firsts W s xs × (zs ≡ map (λ i. Left i) xs)
  left_drains W zs z s e h =
      let k = left_gave zs z h.0 s e h.1 in
      (k.0, (k.1, k.3, λ w. let d = h.2 w in let m = left_move None h.0 d.0 k.1 k.2 d.1 in (m.0, m.2)), k.4)

  -- behind each run of the walk stands a run of the held side
  pub left_runs : (z : Walk) (s : S) → swap_side z ≡ Left s → EachRunFrom (held_swap_steps firsts seconds) z (λ p. SomeRun firsts s (λ a. IsWrappedRun (λ i. Left i) p a))
  left_runs z s e p _ from =
      let k = left_drains (p.whole ≡ true) p.items p.from s (ap swap_side from ∙ e) (took p) in
      (run firsts s k.0 p.whole k.1, refl, ((p.long ∙ ap length k.2 ∙ length-map k.0 (λ i. Left i), k.2, λ n. at-is p n ∙ ap (λ l. slice_get l n) k.2 ∙ slice_get-map (λ i. Left i) k.0 n), refl))

  pub right_move : (r : Option (Either A B)) (z j : Walk) (s : T) → swap_side z ≡ Right s → held_swap_steps firsts seconds z r j → (b : T) × (swap_side j ≡ Right b) × seconds s (item_right r) b × (item_left r ≡ None)
  right_move r z j s e h = subst (λ o. MatchPlaces o (λ a. (b : S) × (swap_side j ≡ Left b) × firsts a (item_left r) b × (item_right r ≡ None)) (λ a. (b : T) × (swap_side j ≡ Right b) × seconds a (item_right r) b × (item_left r ≡ None))) e h

  right_step : (i : Either A B) (z j : Walk) (s : T) → swap_side z ≡ Right s → held_swap_steps firsts seconds z (Some i) j → (b : T) × (x : B) × (swap_side j ≡ Right b) × seconds s (Some x) b × (i ≡ Right x)
  right_step (Right x) z j s e h = let k = right_move (Some (Right x)) z j s e h in (k.0, x, k.1, k.2, refl)
  right_step (Left y) z j s e h = absurd (let k = (right_move (Some (Left y)) z j s e h).3 in cc)

  right_gave : (zs : List (Either A B)) (z t : Walk) (s : T) → swap_side z ≡ Right s → Yields (held_swap_steps firsts seconds) z zs t → (xs : List B) × (u : T) × (swap_side t ≡ Right u) × Yields seconds s xs u × (zs ≡ map (λ i. Right i) xs)
  right_gave [] z t s e h = ([], s, subst (λ w. swap_side w ≡ Right s) h e, refl, refl)
  right_gave (i ∷ zs) z t s e h =
      let k = right_step i z h.0 s e h.1 in
      let rest = right_gave zs h.0 t k.0 k.2 h.2 in
      (k.1 ∷ rest.0, rest.1, rest.2, (k.0, k.3, rest.3), ap₂ (λ x l. x ∷ l) k.4 rest.4)

  right_drains : (W : Type 0) (zs : List (Either A B)) (z : Walk) (s : T) → swap_side z ≡ Right s → DrainsIf (held_swap_steps firsts seconds) W z zs → (xs : List B) × DrainsIf seconds W s xs × (zs ≡ map (λ i. Right i) xs)
  right_drains W zs z s e h =
      let k = right_gave zs z h.0 s e h.1 in
      (k.0, (k.1, k.3, λ w. let d = h.2 w in let m = right_move None h.0 d.0 k.1 k.2 d.1 in (m.0, m.2)), k.4)

  -- behind each run of the walk stands a run of the held side
  pub right_runs : (z : Walk) (s : T) → swap_side z ≡ Right s → EachRunFrom (held_swap_steps firsts seconds) z (λ p. SomeRun seconds s (λ a. IsWrappedRun (λ i. Right i) p a))
  right_runs z s e p _ from =
      let k = right_drains (p.whole ≡ true) p.items p.from s (ap swap_side from ∙ e) (took p) in
      (run seconds s k.0 p.whole k.1, refl, ((p.long ∙ ap length k.2 ∙ length-map k.0 (λ i. Right i), k.2, λ n. at-is p n ∙ ap (λ l. slice_get l n) k.2 ∙ slice_get-map (λ i. Right i) k.0 n), refl))

  module _ {X Y : Type 0} (gives : X → S → Type 0) (others : Y → T → Type 0) where
    -- and the walk is one over what the places of a value were made into
    pub swap_made : (v : Either X Y) (z : Walk) → MapsPlace gives (left_place v) (left_place (swap_side z)) → MapsPlace others (right_place v) (right_place (swap_side z)) → SwapRuns gives others firsts seconds v z
    swap_made v z = made v (swap_side z) refl
      where
        made : (v : Either X Y) (o : Either S T) → swap_side z ≡ o → MapsPlace gives (left_place v) (left_place o) → MapsPlace others (right_place v) (right_place o) → SwapRuns gives others firsts seconds v z
        made (Left x) (Left s) e l r = (s, l, e, left_runs z s e)
        made (Left x) (Right t) e l r = elim l [ ]
        made (Right y) (Left s) e l r = elim r [ ]
        made (Right y) (Right t) e l r = (t, r, e, right_runs z t e)

-- a place of references, and what stands behind it
pub place_behind : {P X S : Type 0} (now : P → X) (gives : P → S → Type 0) (r : Option P) (o : Option S) → MapsPlace gives r o → MapsPlace (λ x s. (p : P) × (now p ≡ x) × gives p s) (option_map now r) o
place_behind now gives None o h = h
place_behind now gives (Some p) (Some s) h = (p, refl, h)
place_behind now gives (Some p) None h = elim h [ ]

module _ {P Q X Y : Type 0} (now : P → X) (other : Q → Y) where
  left_map : (r : Either P Q) → left_place (map_places now other r) ≡ option_map now (left_place r)
  left_map (Left p) = refl
  left_map (Right q) = refl

  right_map : (r : Either P Q) → right_place (map_places now other r) ≡ option_map other (right_place r)
  right_map (Left p) = refl
  right_map (Right q) = refl

  pub left_behind : {S : Type 0} (gives : P → S → Type 0) (r : Either P Q) (v : Either X Y) (o : Option S) → map_places now other r ≡ v → MapsPlace gives (left_place r) o → MapsPlace (λ x s. (p : P) × (now p ≡ x) × gives p s) (left_place v) o
  left_behind gives r v o e h = subst (λ w. MapsPlace (λ x s. (p : P) × (now p ≡ x) × gives p s) w o) (sym (left_map r) ∙ ap left_place e) (place_behind now gives (left_place r) o h)

  pub right_behind : {T : Type 0} (gives : Q → T → Type 0) (r : Either P Q) (v : Either X Y) (o : Option T) → map_places now other r ≡ v → MapsPlace gives (right_place r) o → MapsPlace (λ y t. (q : Q) × (other q ≡ y) × gives q t) (right_place v) o
  right_behind gives r v o e h = subst (λ w. MapsPlace (λ y t. (q : Q) × (other q ≡ y) × gives q t) w o) (sym (right_map r) ∙ ap right_place e) (place_behind other gives (right_place r) o h)
