-- Parts that are appended one after another.
use Rattle.std.proofs.Common.{ℕ, ◌≡◌, ◌<◌, ◌≤◌, ◌+◌, List, [], ◌∷◌, ◌++◌, length, get_or, take, drop, map, refl, sym, ap, ◌∙◌, append-nil, append_assoc, arith}
use Rattle.std.specs.List.{flat_map, join_with_byte}
use Rattle.std.proofs.lemmas.List.{flat_map_more, take_more, take_all}

-- one more part
pub part_more : {X : Type 0} (f : X → List ℕ) (xs : List X) (i : ℕ) (d : X) (start output more : List ℕ) → i < length xs
    → output ≡ start ++ flat_map f (take i xs) → more ≡ output ++ f (get_or xs i d) → more ≡ start ++ flat_map f (take (i + 1) xs)
part_more f xs i d start output more h e m =
    m ∙ ap (λ l. l ++ f (get_or xs i d)) e ∙ flat_map_more f start (take i xs) (get_or xs i d) ∙ ap (λ l. start ++ flat_map f l) (sym (take_more xs i d h))

-- all of them
pub parts_all : {X : Type 0} (f : X → List ℕ) (xs : List X) (i : ℕ) (start output : List ℕ) → length xs ≤ i
    → output ≡ start ++ flat_map f (take i xs) → output ≡ start ++ flat_map f xs
parts_all f xs i start output h e = e ∙ ap (λ l. start ++ flat_map f l) (take_all i xs h)

-- the first of some words, and a space before each of the others
pub join_first : {X : Type 0} (f : X → List ℕ) (x : X) (xs : List X) → join_with_byte 32 (map f (x ∷ xs)) ≡ f x ++ flat_map (λ w. 32 ∷ f w) xs
join_first f x [] = sym (append-nil (f x))
join_first f x (y ∷ ys) = ap (λ l. f x ++ 32 ∷ l) (join_first f y ys)

pub join_whole : {X : Type 0} (f : X → List ℕ) (xs : List X) (d : X) → 1 ≤ length xs → join_with_byte 32 (map f xs) ≡ f (get_or xs 0 d) ++ flat_map (λ w. 32 ∷ f w) (drop 1 xs)
join_whole f [] d h = absurd (omega arith)
join_whole f (x ∷ xs) d h = join_first f x xs

pub join_none : {X : Type 0} (f : X → List ℕ) (xs : List X) → length xs < 1 → join_with_byte 32 (map f xs) ≡ []
join_none f [] h = refl
join_none f (x ∷ xs) h = absurd (omega arith)

-- the first word, and then each of the others after a space
pub spaced_all : {X : Type 0} (f : X → List ℕ) (xs others : List X) (d : X) (i : ℕ) (start first output : List ℕ) → 1 ≤ length xs → others ≡ drop 1 xs
    → first ≡ start ++ f (get_or xs 0 d) → length others ≤ i → output ≡ first ++ flat_map (λ w. 32 ∷ f w) (take i others)
    → output ≡ start ++ join_with_byte 32 (map f xs)
spaced_all f xs others d i start first output h q e n p =
    parts_all (λ w. 32 ∷ f w) others i first output n p
    ∙ ap (λ l. l ++ flat_map (λ w. 32 ∷ f w) others) e
    ∙ append_assoc start (f (get_or xs 0 d)) (flat_map (λ w. 32 ∷ f w) others)
    ∙ ap (λ l. start ++ (f (get_or xs 0 d) ++ flat_map (λ w. 32 ∷ f w) l)) q
    ∙ ap (λ l. start ++ l) (sym (join_whole f xs d h))
