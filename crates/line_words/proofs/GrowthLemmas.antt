-- Lemmas on bytes that are appended to.
use Rattle.std.proofs.Common.{◌≡◌, ℕ, List, [], ◌++◌, length, take, sym, ap, ◌∙◌, append_assoc, append-nil, Bool, true, false}
use Rattle.std.specs.Bool.{if◌then◌else◌}
use Rattle.std.proofs.Math.Seq.{take-append_seam}
use Rattle.line_words.specs.Growth.{Extends}

pub extends_same : (xs : List ℕ) → Extends xs xs
unfolding Extends
extends_same xs = ([], sym (append-nil xs))

pub extends_more : (xs ys more : List ℕ) → ys ≡ xs ++ more → Extends xs ys
unfolding Extends
extends_more xs ys more e = (more, e)

-- a part that is appended where memory is given
pub extends_maybe : (b : Bool) (xs ys more : List ℕ) → ys ≡ (if b then xs ++ more else xs) → Extends xs ys
unfolding Extends
extends_maybe true xs ys more e = (more, e)
extends_maybe false xs ys more e = ([], e ∙ sym (append-nil xs))

pub extends_trans : (xs ys zs : List ℕ) → Extends xs ys → Extends ys zs → Extends xs zs
unfolding Extends
extends_trans xs ys zs a b = (a.0 ++ b.0, b.1 ∙ ap (λ l. l ++ b.0) a.1 ∙ append_assoc xs a.0 b.0)

pub take_extended : (xs ys : List ℕ) → Extends xs ys → take (length xs) ys ≡ xs
unfolding Extends
take_extended xs ys a = ap (λ l. take (length xs) l) a.1 ∙ take-append_seam xs a.0
