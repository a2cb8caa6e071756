-- Rows that come out in an order.
use Rattle.std.proofs.Common.{◌≡◌, ◌∙◌, ℕ, suc, Bool, true, false, List, [], ◌∷◌, length, Option, Some, refl, sym, ap, true≢false}
use Rattle.std.specs.Prelude.{◌↔◌, IsTrue, MatchBool}
use Rattle.std.proofs.lemmas.List.Sorted.{length_permutation}
use Rattle.eob_joins.specs.Groups.{some_items}
use Rattle.keyed_jobs.specs.ComeOut.{AlikeByKey, ComesOut, HasGroups}

module _ {K V : Type 0} (P : V → V → Type 0) where
  alike_length : (xs ys : List (K × V)) → AlikeByKey P xs ys → length ys ≡ length xs
  alike_length [] [] h = refl
  alike_length [] (y ∷ ys) h = absurd h
  alike_length (x ∷ xs) [] h = absurd h
  alike_length (x ∷ xs) (y ∷ ys) h = ap suc (alike_length xs ys h.1)

  groups_length : (b : Bool) (xs ys : List (K × V)) → HasGroups b P xs ys → length ys ≡ length xs
  groups_length true xs ys e = ap length e
  groups_length false xs ys h = alike_length xs ys h

-- as many rows come out as there are
pub comes_length : {V : Type 0} (noted : Option (List (List (List ℕ)))) (b : Bool) (P : V → V → Type 0) (xs ys : List (List (List ℕ) × V))
    → ComesOut noted b P xs ys → length ys ≡ length xs
comes_length noted b P xs ys h = groups_length P b h.0 ys h.3 ∙ length_permutation xs h.0 h.1

pub none_of : {X : Type 0} (xs : List X) → length xs ≡ 0 → xs ≡ []
none_of [] e = refl
none_of (x ∷ xs) e = absurd (cc)

-- a list that has an item is the one that it was made of
pub some_back : {V : Type 0} (vs ws : List V) → some_items vs ≡ Some ws → vs ≡ ws
some_back [] ws e = absurd (cc)
some_back (v ∷ vs) ws e = cc

-- a test that tells of P, and what holds by it
pub told_true : (b : Bool) (P A S : Type 0) → IsTrue b ↔ P → MatchBool b A S → P → A
told_true true P A S h m p = m
told_true false P A S h m p = absurd (true≢false (sym (h.1 p)))

pub told_false : (b : Bool) (P A S : Type 0) → IsTrue b ↔ P → MatchBool b A S → (P → ⊥) → S
told_false true P A S h m n = absurd (n (h.0 refl))
told_false false P A S h m n = m
