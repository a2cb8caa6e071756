-- Items that are read as they are.
use Rattle.std.proofs.Common.{◌≡◌, List, [], ◌∷◌, map, Option, Some, None, refl, ap, ap₂}
use Rattle.std.specs.Option.{option_map}

pub map_as_is : {A : Type 0} (f : A → A) → ((x : A) → f x ≡ x) → (xs : List A) → map f xs ≡ xs
map_as_is f e [] = refl
map_as_is f e (x ∷ xs) = ap₂ (λ a l. a ∷ l) (e x) (map_as_is f e xs)

pub answers_as_is : {A : Type 0} (f : A → A) → ((x : A) → f x ≡ x) → (xs : List (Option A)) → map (option_map f) xs ≡ xs
answers_as_is f e [] = refl
answers_as_is f e (None ∷ xs) = ap (λ l. None ∷ l) (answers_as_is f e xs)
answers_as_is f e (Some x ∷ xs) = ap₂ (λ a l. Some a ∷ l) (e x) (answers_as_is f e xs)
