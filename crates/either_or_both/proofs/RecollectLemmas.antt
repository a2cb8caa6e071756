-- What a pair of containers gives when it is walked side by side to its end.
use Rattle.std.proofs.Common.{◌≡◌, true, List, [], ◌∷◌, map, Option, refl, ap, ◌∙◌}
use Rattle.std.specs.Iterator.Runs.{Run}
use Rattle.eob_both.specs.declared.either_or_both.EitherOrBoth.{EitherOrBoth}
use Rattle.eob_both.specs.declared.either_or_both.EitherOrBoth.TheVariants.{Left, Both, Right}
use Rattle.eob_both.specs.declared.iter.swap.SwapIterEitherOrBoth.{SwapIterEitherOrBoth}
use Rattle.eob_both.specs.Aligned.{aligned}
use Rattle.eob_both.specs.Collector.{contents_at}
use Rattle.eob_both.specs.Places.{left_place, right_place}
use Rattle.eob_both.specs.Runs.{SwapsRuns}
use Rattle.eob_both.specs.Sides.{lefts, rights}
use Rattle.eob_both.specs.Swap.{swap_steps}
use Rattle.either_or_both.specs.Walked.{GivesList}

module _ (A B : Type 0) where
  lefts_of_lefts : (xs : List A) → lefts {R = B} (map (λ x. Left x) xs) ≡ xs
  lefts_of_lefts [] = refl
  lefts_of_lefts (x ∷ xs) = ap (λ l. x ∷ l) (lefts_of_lefts xs)

  lefts_of_rights : (ys : List B) → lefts {L = A} (map (λ y. Right y) ys) ≡ []
  lefts_of_rights [] = refl
  lefts_of_rights (y ∷ ys) = lefts_of_rights ys

  rights_of_lefts : (xs : List A) → rights {R = B} (map (λ x. Left x) xs) ≡ []
  rights_of_lefts [] = refl
  rights_of_lefts (x ∷ xs) = rights_of_lefts xs

  rights_of_rights : (ys : List B) → rights {L = A} (map (λ y. Right y) ys) ≡ ys
  rights_of_rights [] = refl
  rights_of_rights (y ∷ ys) = ap (λ l. y ∷ l) (rights_of_rights ys)

module _ {A B : Type 0} where
  lefts-aligned : (xs : List A) (ys : List B) → lefts (aligned xs ys) ≡ xs
  lefts-aligned [] ys = lefts_of_rights A B ys
  lefts-aligned (x ∷ xs) [] = ap (λ l. x ∷ l) (lefts_of_lefts A B xs)
  lefts-aligned (x ∷ xs) (y ∷ ys) = ap (λ l. x ∷ l) (lefts-aligned xs ys)

  rights-aligned : (xs : List A) (ys : List B) → rights (aligned xs ys) ≡ ys
  rights-aligned [] ys = rights_of_rights A B ys
  rights-aligned (x ∷ xs) [] = rights_of_lefts A B xs
  rights-aligned (x ∷ xs) (y ∷ ys) = ap (λ l. y ∷ l) (rights-aligned xs ys)

module _ {X Y S T A B : Type 0} (opens : X → S → Type 0) (others : Y → T → Type 0) (firsts : S → Option A → S → Type 0) (seconds : T → Option B → T → Type 0)
    (c : X → List A) (d : Y → List B) (P : List A → Type 0) (Q : List B → Type 0) where
  -- the sides of what the walk gave are what the sides of the pair hold
  abbrev pub WalkedSides : EitherOrBoth X Y → List (EitherOrBoth A B) → Type 0
  WalkedSides v xs = (lefts xs ≡ contents_at c (left_place v)) × (rights xs ≡ contents_at d (right_place v)) × P (contents_at c (left_place v)) × Q (contents_at d (right_place v))

  pub walked_sides : ((x : X) (s : S) → opens x s → P (c x) × GivesList firsts s (c x)) → ((y : Y) (t : T) → others y t → Q (d y) × GivesList seconds t (d y)) → P [] → Q []
      → (v : EitherOrBoth X Y) (z : SwapIterEitherOrBoth S T) → SwapsRuns opens others firsts seconds v z → (p : Run (swap_steps firsts seconds)) → p.from ≡ z → p.whole ≡ true → WalkedSides v p.items
  walked_sides left right none none' (Left x) z h p from whole =
      let here = h.4 p p.seen from in
      let a = here.0 in
      let l = left x h.0 h.1 in
      let items = l.1 a a.seen here.1 (here.2.2 whole) in
      (ap lefts here.2.1 ∙ lefts-aligned a.items [] ∙ items, ap rights here.2.1 ∙ rights-aligned a.items [], l.0, none')
  walked_sides left right none none' (Both x y) z h p from whole =
      let here = h.6 p p.seen from in
      let a = here.0 in
      let b = here.2.0 in
      let run = here.2.2 in
      let l = left x h.0 h.2 in
      let r = right y h.1 h.3 in
      let ended = run.2 whole in
      (ap lefts run.1 ∙ lefts-aligned a.items b.items ∙ l.1 a a.seen here.1 ended.0, ap rights run.1 ∙ rights-aligned a.items b.items ∙ r.1 b b.seen here.2.1 ended.1, l.0, r.0)
  walked_sides left right none none' (Right y) z h p from whole =
      let here = h.4 p p.seen from in
      let b = here.0 in
      let r = right y h.0 h.1 in
      let items = r.1 b b.seen here.1 (here.2.2 whole) in
      (ap lefts here.2.1 ∙ lefts-aligned [] b.items, ap rights here.2.1 ∙ rights-aligned [] b.items ∙ items, none, r.0)
