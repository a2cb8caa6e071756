-- The text of rows, and more rows.
use Rattle.std.proofs.Common.{◌≡◌, ◌∙◌, ℕ, List, [], ◌∷◌, ◌++◌, append_assoc, ap, refl, sym}
use Rattle.csv.specs.Writing.{row_text}
use Rattle.csv.specs.declared.writer.WriterBuilder.{WriterBuilder}
use Rattle.keyed_text.specs.Texts.{text_by}

-- the texts of rows, one after the other
pub text_both : (w : WriterBuilder) (rows more : List (List (List ℕ))) → text_by w (rows ++ more) ≡ text_by w rows ++ text_by w more
text_both w [] more = refl
text_both w (row ∷ rows) more =
    ap (λ text. row_text w row ++ text) (text_both w rows more) ∙ sym (append_assoc (row_text w row) (text_by w rows) (text_by w more))
