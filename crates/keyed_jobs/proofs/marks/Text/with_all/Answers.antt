use Rattle.keyed_jobs.specs.MarkedText.{marked_text}
use Rattle.keyed_jobs.proofs.MarkLemmas.{puts-more, puts-none}
use Rattle.keyed_jobs.proofs.marks.Text.with_all.Goals as goal

pub loop-key-init : goal.loop-key-init
loop-key-init c = puts-none c.args.job.now.form c.args.self

pub loop-key-preserved : goal.loop-key-preserved
loop-key-preserved c =
    let job = c.args.job.now in
    puts-more job.form (λ row. marked_text job.form job.columns.now.order.items c.args.how.unit c.args.how.alikes.now row.0 row.1) _ _ _ c.loop-key.yielded (c.in-Some.key, c.in-Some.row) c.loop-key.invariant c.in_ok-text.ensures

pub loop-key-preserved-in_ok-text : goal.loop-key-preserved-in_ok-text
loop-key-preserved-in_ok-text c =
    let job = c.args.job.now in
    puts-more job.form (λ row. marked_text job.form job.columns.now.order.items c.args.how.unit c.args.how.alikes.now row.0 row.1) _ _ _ c.loop-key.yielded (c.in-Some.key, c.in-Some.row) c.loop-key.invariant c.in_ok-text.ensures
