-- Items and rows as texts, parted by spaces.
use Rattle.std.proofs.Common.{ℕ, ◌≡◌, ◌<◌, ◌≤◌, List, [], ◌∷◌, ◌++◌, length, get_or, take, drop, map, refl, sym, ap, ◌∙◌, arith}
use Rattle.std.specs.List.{flat_map, join_with_byte}
use Rattle.line_words.proofs.PartLemmas.{spaced_all}
use Rattle.walk_lines.specs.Texts.{spaced}

map-map : {X Y : Type 0} (f : Y → List ℕ) (g : X → Y) (xs : List X) → map f (map g xs) ≡ map (λ x. f (g x)) xs
map-map f g [] = refl
map-map f g (x ∷ xs) = ap (λ l. f (g x) ∷ l) (map-map f g xs)

spaced_some : {X : Type 0} (f : X → List ℕ) (xs : List X) → 1 ≤ length xs → spaced (map f xs) ≡ join_with_byte 32 (map f xs)
spaced_some f [] h = absurd (omega arith)
spaced_some f (x ∷ xs) h = refl

-- no texts are a dash
pub texts_none : {X Y : Type 0} (f : Y → List ℕ) (g : X → Y) (xs : List X) → length xs < 1 → 45 ∷ [] ≡ spaced (map f (map g xs))
texts_none f g [] h = refl
texts_none f g (x ∷ xs) h = absurd (omega arith)

-- the first text, and then each of the others after a space
pub texts_all : {X Y : Type 0} (f : Y → List ℕ) (g : X → Y) (xs others : List X) (d : X) (i : ℕ) (start first output : List ℕ) → 1 ≤ length xs → others ≡ drop 1 xs
    → first ≡ start ++ f (g (get_or xs 0 d)) → length others ≤ i → output ≡ first ++ flat_map (λ x. 32 ∷ f (g x)) (take i others)
    → output ≡ start ++ spaced (map f (map g xs))
texts_all f g xs others d i start first output h q e n p =
    spaced_all (λ x. f (g x)) xs others d i start first output h q e n p
    ∙ ap (λ l. start ++ l) (sym (spaced_some (λ x. f (g x)) xs h) ∙ sym (ap spaced (map-map f g xs)))
