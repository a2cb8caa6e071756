-- The list of an array that is walked by value.
use Rattle.std.proofs.Common.{◌≡◌, ℕ, List, [], ◌∷◌, length, Option, Some, None, refl, ap, ◌∙◌, arith}
use Rattle.std.specs.Prelude.{⊤}
use Rattle.std.specs.Array.Iter.{array_into_iter_items, array_steps, array_steps_back}
use Rattle.std.specs.Iterator.{at_most, YieldsFirstBy, YieldsLastBy}
use Rattle.std.specs.declared.array.IntoIter.{IntoIter}
use Rattle.eob_both.specs.Ends.{Ends, both_ends, CountedToCome}
use Rattle.eob_both.proofs.EndsLemmas.{to_come_of_rest}

none_left : {A : Type 0} (xs : List A) → length xs ≡ 0 → xs ≡ []
none_left [] e = refl
none_left (x ∷ xs) e = absurd (omega arith)

module _ {X : Type 0} {n : ℕ} where
  abbrev pub array_ends : Ends (IntoIter X n) X
  array_ends = both_ends (λ _. ⊤)
      (λ _. ⊤) array_steps array_steps_back (λ s. at_most (length (array_into_iter_items s)))

  array_front : (s : IntoIter X n) (r : Option X) (t : IntoIter X n) → array_steps s r t
      → YieldsFirstBy (λ x. x) array_into_iter_items s r t
  array_front s None t e = (none_left _ e.0, ap array_into_iter_items e.1 ∙ none_left _ e.0)
  array_front s (Some x) t e = e

  array_back : (s : IntoIter X n) (r : Option X) (t : IntoIter X n) → array_steps_back s r t
      → YieldsLastBy (λ x. x) array_into_iter_items s r t
  array_back s None t e = (none_left _ e.0, ap array_into_iter_items e.1 ∙ none_left _ e.0)
  array_back s (Some x) t e = e

  pub array_to_come : (s : IntoIter X n) → CountedToCome array_ends (λ x. x) (array_into_iter_items s) s
  array_to_come = to_come_of_rest array_ends (λ x. x) array_into_iter_items (record {
    callable = λ s. tt;
    callable_back = λ s. tt;
    counted = λ s. refl;
    front = array_front;
    back = array_back;
  })

  pub array_comes : (xs : List X) (s : IntoIter X n) → array_into_iter_items s ≡ xs
      → CountedToCome array_ends (λ x. x) xs s
  array_comes xs s e = rw (← e) (array_to_come s)
