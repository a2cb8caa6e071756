-- Blocks of bytes in which no line ends.
use Rattle.std.proofs.Common.{ℕ, ◌≡◌, ◌≢◌, ◌+◌, List, ◌∷◌, ◌++◌, length, take, drop, sym, ap, ◌∙◌, subst, append_assoc, take-append-drop, length-append}
use Rattle.std.proofs.Math.Seq.{take-add, take-append_seam}
use Rattle.std.proofs.lemmas.List.Elements.{All-append}
use Rattle.line_runs.specs.Session.{HasNoEnd}

-- one more block
pub endless_more : (bytes : List ℕ) (n m : ℕ) → HasNoEnd (take n bytes) → HasNoEnd (take m (drop n bytes)) → HasNoEnd (take (n + m) bytes)
endless_more bytes n m a b = subst HasNoEnd (sym (take-add n m bytes)) (All-append (λ b. b ≢ 10) (take n bytes) (take m (drop n bytes)) a b)

-- no line ends in the blocks, and none in the bytes after them
pub endless_behind : (bytes : List ℕ) (n : ℕ) (others : List ℕ) → others ≡ drop n bytes → HasNoEnd (take n bytes) → HasNoEnd others → HasNoEnd bytes
endless_behind bytes n others e a b =
    subst HasNoEnd (ap (λ x. take n bytes ++ x) e ∙ take-append-drop n bytes) (All-append (λ b. b ≢ 10) (take n bytes) others a b)

-- a line that ends after the blocks
pub line_behind : (bytes : List ℕ) (n : ℕ) (blocks others last rest : List ℕ) → blocks ≡ take n bytes → others ≡ drop n bytes → HasNoEnd (take n bytes)
    → others ≡ last ++ 10 ∷ rest → HasNoEnd last
    → (bytes ≡ take (length blocks + length last) bytes ++ 10 ∷ rest) × HasNoEnd (take (length blocks + length last) bytes)
line_behind bytes n blocks others last rest e f a g b =
    let all : bytes ≡ (blocks ++ last) ++ 10 ∷ rest = sym (take-append-drop n bytes) ∙ ap (λ x. x ++ drop n bytes) (sym e) ∙ ap (λ x. blocks ++ x) (sym f ∙ g) ∙ sym (append_assoc blocks last (10 ∷ rest)) in
    let same : take (length blocks + length last) bytes ≡ blocks ++ last =
    ap (λ m. take m bytes) (sym (length-append blocks last)) ∙ ap (take (length (blocks ++ last))) all ∙ take-append_seam (blocks ++ last) (10 ∷ rest) in
    (all ∙ ap (λ x. x ++ 10 ∷ rest) (sym same), subst HasNoEnd (sym same) (All-append (λ b. b ≢ 10) blocks last (subst HasNoEnd (sym e) a) b))
