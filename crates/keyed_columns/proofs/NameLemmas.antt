-- Lists of names whose elements are read in another way.
use Rattle.std.proofs.Common.{◌≡◌, ◌∙◌, ℕ, suc, Some, None, arith, Bool, true, false, cond, List, [], ◌∷◌, ◌++◌, ◌+◌, length, map, nat_eq, position, refl, sym, ap, true≢false}
use Rattle.std.specs.Prelude.{◌||◌, is_none, is_some, nat_lt, not}
use Rattle.std.specs.Cmp.{IsEquivalence}
use Rattle.std.specs.Cmp.Lexicographic.{nat_list_eq_equiv, pointwise}
use Rattle.std.specs.List.{list_any, position_or_len}
use Rattle.std.proofs.lemmas.Bool.Decides.{nat_tests}
use Rattle.std.proofs.lemmas.List.{length-map, map-append}
use Rattle.std.proofs.lemmas.List.Folds.{list_any-append}
use Rattle.std.proofs.lemmas.Map.Steps.{list_any_congr}
use Rattle.indexmap.specs.IndexSet.{insert_all, insert_key}

module _ {X Y : Type 0} (f : X → Y) where
  pub list_any-map : (p : Y → Bool) (xs : List X) → list_any p (map f xs) ≡ list_any (λ x. p (f x)) xs
  list_any-map p [] = refl
  list_any-map p (x ∷ xs) = ap (λ b. p (f x) || b) (list_any-map p xs)

  place-map : (p : Y → Bool) (xs : List X) → position_or_len p (map f xs) ≡ position_or_len (λ x. p (f x)) xs
  place-map p [] = refl
  place-map p (x ∷ xs) = rw (place-map p xs) refl

  pub position-map : (p : Y → Bool) (xs : List X) → position p (map f xs) ≡ position (λ x. p (f x)) xs
  position-map p xs = rw (place-map p xs, length-map) refl

  insert_if : (b : Bool) (xs : List X) (x : X) → map f (cond b xs (xs ++ x ∷ [])) ≡ cond b (map f xs) (map f xs ++ f x ∷ [])
  insert_if true xs x = refl
  insert_if false xs x = map-append f xs (x ∷ [])

  pub insert-map : (eq : Y → Y → Bool) (xs : List X) (x : X) → map f (insert_key (λ x y. eq (f x) (f y)) xs x) ≡ insert_key eq (map f xs) (f x)
  insert-map eq xs x = insert_if (list_any (λ y. eq (f x) (f y)) xs) xs x ∙ rw (list_any-map (eq (f x)) xs) refl

-- a name that is none of those there is put after them
not-true : (b : Bool) → not b ≡ true → b ≡ false
not-true true e = absurd (true≢false (sym e))
not-true false e = refl

pub insert-new : {K : Type 0} (eq : K → K → Bool) (keys : List K) (k : K) → not (list_any (eq k) keys) ≡ true → insert_key eq keys k ≡ keys ++ k ∷ []
insert-new eq keys k new = rw (not-true (list_any (eq k) keys) new) refl

-- tests that agree
pub list_any_agree : {X : Type 0} (p q : X → Bool) → ((x : X) → p x ≡ q x) → (xs : List X) → list_any p xs ≡ list_any q xs
list_any_agree p q h [] = refl
list_any_agree p q h (x ∷ xs) = rw (h x, list_any_agree p q h xs) refl

or_false : (a : Bool) → (a || false) ≡ a
or_false true = refl
or_false false = refl

or_shift : (a b c d : Bool) → d ≡ (a || b) → (d || c) ≡ (a || (b || c))
or_shift true b c d e = rw e refl
or_shift false b c d e = rw e refl

-- a name is among the names that are inserted where it was there or is one of them
module _ {K : Type 0} (eq : K → K → Bool) (laws : IsEquivalence eq) where
  pub one_in : (k x : K) (ks : List K) (b t : Bool) → list_any (eq x) ks ≡ b → eq k x ≡ t → list_any (eq k) (cond b ks (ks ++ x ∷ [])) ≡ (list_any (eq k) ks || t)
  one_in k x ks true true e f = list_any_congr laws k x ks f ∙ e ∙ sym (ap (λ b. b || true) (list_any_congr laws k x ks f ∙ e))
  one_in k x ks true false e f = sym (or_false (list_any (eq k) ks))
  one_in k x ks false t e f = list_any-append (eq k) ks (x ∷ []) ∙ ap (λ b. list_any (eq k) ks || b) (or_false (eq k x) ∙ f)

  all_in : (k : K) (xs ks : List K) → list_any (eq k) (insert_all eq ks xs) ≡ (list_any (eq k) ks || list_any (eq k) xs)
  all_in k [] ks = sym (or_false (list_any (eq k) ks))
  all_in k (x ∷ xs) ks =
      all_in k xs (insert_key eq ks x)
      ∙ or_shift (list_any (eq k) ks) (eq k x) (list_any (eq k) xs) (list_any (eq k) (insert_key eq ks x)) (one_in k x ks (list_any (eq x) ks) (eq k x) refl refl)

pub all_names : (name : List ℕ) (xs : List (List ℕ)) → list_any (pointwise nat_eq name) (insert_all (pointwise nat_eq) [] xs) ≡ list_any (pointwise nat_eq name) xs
all_names name xs = all_in (pointwise nat_eq) nat_list_eq_equiv name xs []

-- a name stands at no place where no name is equal to it
module _ {X : Type 0} (p : X → Bool) where
  within_if : (x : X) (xs : List X) (b : Bool) → p x ≡ b → nat_lt (position_or_len p xs) (length xs) ≡ list_any p xs → nat_lt (position_or_len p (x ∷ xs)) (length (x ∷ xs)) ≡ list_any p (x ∷ xs)
  within_if x xs true e h = rw e (grind (arith, nat_tests))
  within_if x xs false e h = let s : nat_lt (1 + position_or_len p xs) (suc (length xs)) ≡ nat_lt (position_or_len p xs) (length xs) = grind (arith, nat_tests) in rw e (s ∙ h)

  within : (xs : List X) → nat_lt (position_or_len p xs) (length xs) ≡ list_any p xs
  within [] = refl
  within (x ∷ xs) = within_if x xs (p x) refl (within xs)

  none_where : (b : Bool) (n : ℕ) → is_none (cond b (Some n) None) ≡ not b
  none_where true n = refl
  none_where false n = refl

  pub none_at : (xs : List X) → is_none (position p xs) ≡ not (list_any p xs)
  none_at xs = none_where (nat_lt (position_or_len p xs) (length xs)) (position_or_len p xs) ∙ ap not (within xs)

  some_where : (b : Bool) (n : ℕ) → is_some (cond b (Some n) None) ≡ b
  some_where true n = refl
  some_where false n = refl

  pub some_at : (xs : List X) → is_some (position p xs) ≡ list_any p xs
  some_at xs = some_where (nat_lt (position_or_len p xs) (length xs)) (position_or_len p xs) ∙ within xs
