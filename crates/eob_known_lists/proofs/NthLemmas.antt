-- The items that runs give place by place, from the list that an iterator has still to come.
use Rattle.std.proofs.Common.{◌≡◌, ◌∙◌, ℕ, zero, suc, ◌≤◌, List, [], ◌∷◌, ◌++◌, map, length, slice_get, Option, Some, None, append-nil, arith, refl, sym, ap, subst}
use Rattle.std.proofs.iter.runs.Made.{at-is, took}
use Rattle.std.specs.Iterator.{Yields}
use Rattle.std.specs.Iterator.Runs.{Run}
use Rattle.std.specs.Prelude.{IfSome}
use Rattle.eob_both.specs.Ends.{Ends, HasBound, StillToCome}
use Rattle.eob_both.proofs.EndsLemmas.{to_come_front}
use Rattle.eob_known_lists.specs.Listed.{ReadsPlaces}
use Rattle.eob_known_lists.proofs.OwnLemmas.{map_as_is}

past_end : {A : Type 0} (xs : List A) (n : ℕ) → length xs ≤ n → slice_get xs n ≡ None
past_end [] n h = refl
past_end (x ∷ xs) zero h = absurd (omega (arith, h))
past_end (x ∷ xs) (suc n) h = past_end xs n (omega (arith, h))

before_rest : {A : Type 0} (xs ys : List A) (n : ℕ) (x : A) → slice_get xs n ≡ Some x → slice_get (xs ++ ys) n ≡ Some x
before_rest [] ys n x e = absurd (cc)
before_rest (y ∷ xs) ys zero x e = e
before_rest (y ∷ xs) ys (suc n) x e = before_rest xs ys n x e

item_is : {A : Type 0} (xs ys zs : List A) → zs ≡ xs ++ ys → (k : ℕ) → IfSome (slice_get xs k) (λ x. slice_get zs k ≡ Some x)
item_is xs ys zs e k = at (slice_get xs k) refl
  where
    at : (o : Option _) → slice_get xs k ≡ o → IfSome o (λ x. slice_get zs k ≡ Some x)
    at None h = tt
    at (Some x) h = ap (λ l. slice_get l k) e ∙ before_rest xs ys k x h

module _ {S A : Type 0} (it : Ends S A) (view : A → A) where
  -- calls of `next` take a beginning of the list
  calls_take : (items xs : List A) (s t : S) → StillToCome it view xs s → Yields it.next_gives s items t → (rest : List A) × StillToCome it view rest t × (xs ≡ map view items ++ rest)
  calls_take [] xs s t h e = (xs, subst (λ u. StillToCome it view xs u) e h, refl)
  calls_take (x ∷ items) xs s t h e =
      let one = to_come_front {C = HasBound} {it = it} {view = view} (Some x) e.0 h e.1 in
      let more = calls_take items one.0 e.0 t one.2 e.2 in
      (more.0, more.1, one.1 ∙ ap (λ l. view x ∷ l) more.2)

  pub reads_places : ((x : A) → view x ≡ x) → (xs : List A) (s : S) → StillToCome it view xs s → (p : Run it.next_gives) → p.from ≡ s → ReadsPlaces p xs
  reads_places own xs s h p from =
      let calls = took p in
      let taken = calls_take p.items xs s calls.0 h (subst (λ k. Yields it.next_gives k p.items calls.0) from calls.1) in
      let all : xs ≡ p.items ++ taken.0 = taken.2 ∙ ap (λ l. l ++ taken.0) (map_as_is view own p.items) in (
        (λ k. subst (λ o. IfSome o (λ x. slice_get xs k ≡ Some x)) (sym (at-is p k)) (item_is (p.items) taken.0 xs all k)),
        λ whole k long.
            let last = calls.2 whole in
            let none : taken.0 ≡ [] = (to_come_front {C = HasBound} {it = it} {view = view} None last.0 taken.1 last.1).0 in
            let ends : xs ≡ p.items = all ∙ ap (λ l. p.items ++ l) none ∙ append-nil p.items in
            let length_is = ap length ends in
            past_end xs k (omega (arith, length_is, p.long, long)),
      )
