use Rattle.std.proofs.Common.{◌∙◌, ◌++◌, ap, ap₂, refl}
use Rattle.csv.specs.Writing.{end_text}
use Rattle.keyed_text.specs.Texts.{terminator_of}
use Rattle.keyed_jobs.proofs.MarkLemmas.{puts-line}
use Rattle.keyed_jobs.proofs.marks.Text.with_line.Goals as goal

pub returns : goal.returns
returns c =
    let form = c.args.job.now.form in
    puts-line form c.args.self c.in_ok-bytes.field-0 _ c.args.line.now (end_text (terminator_of form.writing.style.line_end)) c.in_ok-bytes.ensures refl
    (c.in_ok-extend_from_slice-2.ensures.items
    ∙ ap₂ (λ a b. a ++ b) (c.in_ok-extend_from_slice.ensures.items ∙ ap (λ l. c.in_ok-bytes.field-0.bytes.items ++ l) c.as_bytes.ensures.value) c.bytes.ensures)
