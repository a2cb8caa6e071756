use Rattle.std.specs.Prelude.{is_none}
use Rattle.keyed_tables.specs.Arranged.{noted}
use Rattle.keyed_commands.proofs.PartsSaidLemmas.{said_once}
use Rattle.keyed_commands.proofs.sorted.Work.answer.Goals as goal

pub returns-in_ok-answer-in-Join-clause-says : goal.returns-in_ok-answer-in-Join-clause-says
returns-in_ok-answer-in-Join-clause-says c = rw c.in-Join.is (λ by_key. (
  (λ csv. said_once c.in-Join.job.form c.in-Join.job.columns.now c.in-Join.form.header (noted c.in-Join.job.order) (is_none c.in-Join.job.row_order.files)
      by_key.keys by_key.rows c.in-Join.form.kind c.args.part.left.pairs.items c.args.part.right.pairs.items c.in_ok-answer-in-Join.answer.bytes.items
      (c.in_ok-answer-in-Join.ensures.text csv)),
  c.in_ok-answer-in-Join.ensures.status,
))
