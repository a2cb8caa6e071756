-- An iterator whose steps take the ends of a list that it shows has this list still to come.
use Rattle.std.proofs.Common.{◌≡◌, List, [], ◌∷◌, map, Option, Some, None, refl, ap}
use Rattle.std.specs.Iterator.{item_count, YieldsFirst, YieldsLast}
use Rattle.std.specs.Prelude.{⊤}
use Rattle.std.specs.Option.{option_map}
use Rattle.eob_both.specs.Ends.{Ends, both_ends, CountedToCome}
use Rattle.eob_both.proofs.EndsLemmas.{to_come_of_rest}

-- optional items that are read as they are
pub as_they_are : {A : Type 0} → (l : List (Option A)) → map (option_map (λ a. a)) l ≡ l
as_they_are [] = refl
as_they_are (None ∷ l) = ap (λ k. None ∷ k) (as_they_are l)
as_they_are (Some a ∷ l) = ap (λ k. Some a ∷ k) (as_they_are l)

module _ {S A : Type 0} (rest : S → List A) where
  abbrev pub shown_ends : Ends S A
  shown_ends = both_ends (λ _. ⊤) (λ _. ⊤) (YieldsFirst rest) (YieldsLast rest) (item_count rest)

  pub shown_to_come : (s : S) → CountedToCome shown_ends (λ x. x) (rest s) s
  shown_to_come = to_come_of_rest shown_ends (λ x. x) rest (record {
    callable = λ s. tt;
    callable_back = λ s. tt;
    counted = λ s. refl;
    front = λ s r t e. e;
    back = λ s r t e. e;
  })
