use Rattle.std.proofs.Common.{None}
use Rattle.keyed_files.specs.Rows.{rows_under}
use Rattle.keyed_jobs.proofs.MarkLemmas.{puts-rows}
use Rattle.keyed_jobs.proofs.marks.Text.with_rows.Goals as goal

pub returns : goal.returns
returns c =
    let job = c.args.job.now in
    puts-rows job.form c.args.self c.put_rows.new.self (rows_under None job.columns.now.order.items c.args.key.now c.args.rows.now) c.in_ok-put_rows.ensures
