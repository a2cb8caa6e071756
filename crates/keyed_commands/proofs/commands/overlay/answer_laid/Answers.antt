use Rattle.std.proofs.Common.{subst}
use Rattle.std.specs.Prelude.{is_none}
use Rattle.keyed_tables.specs.Arranged.{noted}
use Rattle.keyed_jobs.specs.Answers.{IsTableFile}
use Rattle.keyed_commands.proofs.commands.overlay.answer_laid.Goals as goal

pub returns-clause-text : goal.returns-clause-text
returns-clause-text c =
    let job = c.args.job.now in
    let bytes = c.in_ok-answer.answer.bytes.items in
    subst (λ rows. IsTableFile job.form job.columns.now (noted job.order) (is_none job.row_order.files) rows bytes) c.rows_of.ensures c.in_ok-answer.ensures.text
