use Rattle.std.proofs.lemmas.Result.{IfOk-weaker}
use Rattle.keyed_jobs.proofs.job.Job.take_rows.Goals as goal

pub returns-clause-table : goal.returns-clause-table
returns-clause-table g c = IfOk-weaker c.at-2.result _ _ (λ table is. rw is at c.gather.ensures.table) c.at-2.ensures.value
