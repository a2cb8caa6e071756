use Rattle.std.proofs.Common.{rules, ◌≡◌, ◌≢◌, ◌⊎◌, [], length, refl, sym, ◌∙◌, subst, true≢false}
use Rattle.std.specs.Prelude.{All}
use Rattle.line_words.proofs.WordLemmas.{no_bytes}
use Rattle.walk_lines.proofs.EndLemmas.{ends_filled, ends_letters, filled, letters_ends}
use Rattle.walk_lines.proofs.line.walks.Calls.new.Goals as goal

pub returns-then-is_empty : goal.returns-then-is_empty
returns-then-is_empty c ends n e =
    let zero : length c.args.letters.now ≡ 0 = grind rules in
    filled ends n (sym e ∙ no_bytes c.args.letters.now zero)

pub returns-then-are_ends : goal.returns-then-are_ends
returns-then-are_ends c =
    let letters = c.args.letters.now in
    let some : letters ≢ [] = grind rules in
    let m = letters_ends letters (c.if-are_ends.ensures.0 refl) in
    (m.0, ends_filled letters m.0 m.1 some, m.1, refl)

pub returns-else-are_ends : goal.returns-else-are_ends
returns-else-are_ends c ends n e =
    true≢false (sym (c.if-are_ends.ensures.1 (subst (All (λ b. (b ≡ 102) ⊎ (b ≡ 98))) (sym e) (ends_letters ends))))
