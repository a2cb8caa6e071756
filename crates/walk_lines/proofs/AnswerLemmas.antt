-- From what a command gives to its answer as a text.
use Rattle.std.proofs.Common.{ℕ, ◌≡◌, List, [], ◌∷◌, ◌++◌, inl, inr, map, refl, sym, ap, ap₂, ◌∙◌, true≢false}
use Rattle.std.specs.Prelude.{true, false}
use Rattle.line_words.specs.Growth.{Extends}
use Rattle.walk_lines.specs.declared.line.Answer.{Answer}
use Rattle.walk_lines.specs.declared.line.Answer.TheVariants as answer
use Rattle.walk_lines.specs.Commands.{Command, Collect, Walk, Normal, Ends, Join}
use Rattle.walk_lines.specs.Texts.{IsAnswer, driven_text, items_text, sides_text}
use Rattle.walk_lines.specs.Answers.{ForText, Gives, HasText, end_of, shown_row, side_by_side}
use Rattle.walk_lines.proofs.DrivenLemmas.{collected_aligned, letters_back}

pub answered : {M : Type 0} (c : Command) (a : Answer M) (text : List ℕ) → Gives c a → HasText a text → IsAnswer c text
answered (Collect items) (answer.Collect sides) text h e = e ∙ ap sides_text h
answered (Walk items) (answer.Walk made) text h e = e ∙ ap items_text h
answered (Normal items) (answer.Normal true) text h e = inl (h.0 refl, e)
answered (Normal items) (answer.Normal false) text h e = inr ((λ n. true≢false (sym (h.1 n))), e)
answered (Ends ends items) (answer.Ends sides calls) text h e = e ∙ ap₂ driven_text (ap side_by_side h.0 ∙ collected_aligned items) (ap (map end_of) h.1 ∙ letters_back ends)
answered (Join p q) (answer.Join joined) text h e = (map shown_row joined.items, h, e)
answered c a text h e = absurd h

-- a text, with the byte that ends its line
pub text_ended : {M : Type 0} (a : Answer M) (old more output : List ℕ) → Extends old more → ForText a (λ t. more ≡ old ++ t) → output ≡ more ++ 10 ∷ []
    → (text : List ℕ) × HasText a text × (output ≡ old ++ text ++ 10 ∷ [])
text_ended (answer.Collect sides) old more output g h e = (_, refl, e ∙ ap (λ l. l ++ 10 ∷ []) h)
text_ended (answer.Walk made) old more output g h e = (_, refl, e ∙ ap (λ l. l ++ 10 ∷ []) h)
text_ended (answer.Normal is) old more output g h e = (_, refl, e ∙ ap (λ l. l ++ 10 ∷ []) h)
text_ended (answer.Ends sides calls) old more output g h e = (_, refl, e ∙ ap (λ l. l ++ 10 ∷ []) h)
text_ended (answer.Join joined) old more output g h e = (_, refl, e ∙ ap (λ l. l ++ 10 ∷ []) h)
