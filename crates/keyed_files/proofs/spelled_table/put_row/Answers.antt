use Rattle.std.proofs.Common.{◌∙◌, ◌++◌, ap, ap₂}
use Rattle.keyed_text.specs.Spelling.{blank_lines, body_as, shown_body}
use Rattle.keyed_text.specs.Texts.{terminator_of}
use Rattle.csv.specs.Writing.{end_text}
use Rattle.keyed_requests.specs.FormBytes.{comment_of, delimiter_of}
use Rattle.keyed_files.proofs.SpelledLemmas.{row-put}
use Rattle.keyed_files.proofs.spelled_table.put_row.Goals as goal

pub returns : goal.returns
returns c =
    let row = c.args.row.now in
    row-put c.args.form c.args.spelling.now row c.args.text.now.items _ _ _ _ _
    (c.in_ok-put_lines.ensures ∙ ap (λ ends. c.args.text.now.items ++ blank_lines ends) c.deref-2.ensures.value)
    (c.in_ok-put_cells.ensures ∙ ap (λ l. l ++ body_as c.marks_of.result.delimiter c.marks_of.result.comment c.deref.result.now row) c.clear.ensures.items
    ∙ ap₂ (λ d m. body_as d m c.deref.result.now row) c.marks_of.ensures.delimiter c.marks_of.ensures.comment
    ∙ ap (λ q. body_as (delimiter_of c.args.form) (comment_of c.args.form) q row) c.deref.ensures.value)
    (c.in_ok-put_body.ensures ∙ ap (λ b. c.put_lines.new.text.items ++ shown_body b) c.deref-3.ensures.value)
    c.in_ok-extend_from_slice.ensures.items (c.bytes.ensures ∙ ap (λ e. end_text (terminator_of e)) c.row_end.ensures)
