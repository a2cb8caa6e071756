use Rattle.std.proofs.Common.{ap, inl}
use Rattle.std.proofs.lemmas.Result.{IfOk-weaker, IfErr-weaker}
use Rattle.keyed_jobs.proofs.ReadLemmas.{table-gathered}
use Rattle.keyed_columns.specs.declared.content.Content.TheVariants as content
use Rattle.keyed_tables.specs.Arranged.{noted}
use Rattle.keyed_jobs.specs.FileOrder.{noted_with}
use Rattle.keyed_jobs.proofs.NotedLemmas.{keys-as, keys-noted, on-ok}
use Rattle.keyed_files.proofs.ReadingLemmas.{same-err}
use Rattle.keyed_jobs.specs.Unread.{ExplainsUnread}
use Rattle.keyed_jobs.proofs.UnreadLemmas.{told-of, why-gathered}
use Rattle.keyed_jobs.proofs.job.Job.read_table.Goals as goal

pub returns-clause-table : goal.returns-clause-table
returns-clause-table g c =
    IfOk-weaker c.take_rows.result _ _
    (λ table gathered. table-gathered g.R.Read.remaining c.args.self.now.groups c.args.columns.now c.args.table.now.source.value c.new-rows.result.items
    c.read_rows.new.rows.items table.pairs.items c.new-rows.ensures.items (rw c.in_ok-at.ensures.value at c.read_rows.ensures.read) gathered) c.take_rows.ensures.table

pub returns-clause-notes : goal.returns-clause-notes
returns-clause-notes g c =
    let before = noted c.args.self.now.order in
    let after = noted c.read_rows.new.order in
    on-ok c.take_rows.result
    (keys-as g.R.Read.remaining content.Rows c.args.columns.now c.args.table.now.source.value (noted_with before) after (noted c.take_rows.new.self.order)
    (ap (λ job. noted job.order) c.take_rows.ensures.same)
    (keys-noted g.R.Read.remaining c.args.columns.now c.args.table.now.source.value c.new-rows.result.items c.read_rows.new.rows.items before after c.new-rows.ensures.items
    (rw c.in_ok-at.ensures.value at c.read_rows.ensures.read) (rw c.in_ok-at.ensures.value at c.read_rows.ensures.notes)))

pub returns-in_err-at-clause-why : goal.returns-in_err-at-clause-why
returns-in_err-at-clause-why g c =
    same-err c.from_residual.result c.in_err-at.field-0.0 _ c.from_residual.ensures.1
    (inl (told-of (ExplainsUnread g.R.Read.remaining c.args.columns.now c.args.table.now.source.value) c.read_rows.result c.in_err-at.field-0.0
    c.in_err-at.ensures.why c.read_rows.ensures.why))

pub returns-clause-why : goal.returns-clause-why
returns-clause-why g c =
    IfErr-weaker c.take_rows.result _ _
    (λ fault why. why-gathered g.R.Read.remaining c.args.self.now.groups c.args.columns.now c.args.table.now.source.value c.new-rows.result.items c.read_rows.new.rows.items
    fault.reason c.new-rows.ensures.items (rw c.in_ok-at.ensures.value at c.read_rows.ensures.read) why) c.take_rows.ensures.why
