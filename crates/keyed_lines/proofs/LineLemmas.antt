-- Lines that are put after others.
use Rattle.std.proofs.Common.{◌≡◌, ◌∙◌, ◌+◌, ◌-◌, ◌≤◌, ℕ, List, [], ◌∷◌, ◌++◌, ap, ap₂, arith, slice_range, sym, take}
use Rattle.std.proofs.Math.Seq.{take-add}
use Rattle.std.proofs.lemmas.Grind.{flat_map-append}
use Rattle.std.proofs.lemmas.List.{append-nil}
use Rattle.std.specs.Borrow.{Bor}
use Rattle.keyed_lines.specs.Lines.{joined}

-- where lines are a text up to a place, one more line is a part of it from there on
pub one_more : (lines : List (Bor (List ℕ))) (line : Bor (List ℕ)) (text : List ℕ) (a b : ℕ) → joined lines ≡ take a text → line.now ≡ slice_range text a b → a ≤ b
    → joined (lines ++ line ∷ []) ≡ take b text
one_more lines line text a b h e l =
    let whole : a + (b - a) ≡ b = omega (arith, l) in
    flat_map-append (λ y. y.now) lines (line ∷ []) ∙ ap₂ (λ x y. x ++ y) h (append-nil line.now ∙ e)
    ∙ sym (take-add a (b - a) text) ∙ ap (λ n. take n text) whole
