use Rattle.std.proofs.Common.{◌∙◌, ◌++◌, ◌∷◌, ap, sym}
use Rattle.keyed_reports.proofs.TableLemmas.{word-behind}
use Rattle.keyed_reports.proofs.table.line_of.Goals as goal

pub returns : goal.returns
returns c =
    let begun = c.in_ok-line.ensures in
    let put = c.in_ok-put_row.ensures in (
      begun.0,
      put.0,
      begun.1,
      put.1,
      c.coloured.ensures ∙ put.2 ∙ ap (λ l. l ++ put.0) (begun.2 ∙ ap (λ word. word ∷ begun.0) (c.word_of.ensures ∙ sym (word-behind (λ cells. cells.now) _))),
    )
