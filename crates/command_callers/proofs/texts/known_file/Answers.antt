use Rattle.std.proofs.Common.{◌∙◌, [], ap}
use Rattle.std.specs.Prelude.{None, Some, false, true}
use Rattle.csv.specs.Writing.{escaped, fields_text, is_blank}
use Rattle.keyed_text.specs.Texts.{finished, writer_in}
use Rattle.keyed_text.specs.declared.style.CellQuotes.TheVariants.{Everywhere}
use Rattle.keyed_text.specs.declared.style.LineEnd.TheVariants.{CrLf}
use Rattle.keyed_text.specs.declared.style.Style.{Style}
use Rattle.command_callers.proofs.texts.known_file.Goals as goal

pub returns : goal.returns
unfolding escaped fields_text is_blank
returns c =
    let full : Style = record { has_mark = true; quotes = Everywhere; line_end = CrLf; has_end = false } in
    let by = writer_in full 59 None in
    let begun = rw c.new.ensures.items at c.in_style-writer.ensures in
    let first = c.in_ok-put_cell.ensures by (Some []) [] [] begun in
    let second = c.in_ok-put_cell-2.ensures by (Some []) [] _ first in
    let text = c.in_ok-text.ensures by (Some []) _ (c.in_ok-end_row.ensures by (Some []) [] _ second) in
    c.in_ok-file.ensures ∙ ap (finished full) text
