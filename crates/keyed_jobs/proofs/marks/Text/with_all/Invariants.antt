use Rattle.keyed_jobs.specs.MarkedText.{PutsText, marked_rows_text}
use Rattle.keyed_jobs.proofs.marks.Text.with_all.Given as goal

abbrev pub invariant-loop-key : goal.invariant-loop-key
invariant-loop-key l =
    PutsText l.job.form l.fn.self l.text (marked_rows_text l.job.form l.job.columns.now.order.items l.how.unit l.how.alikes.now l.yielded)
