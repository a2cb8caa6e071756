use Rattle.std.proofs.Common.{ap, ◌∙◌, inl}
use Rattle.std.proofs.lemmas.Result.{IfOk-weaker, IfErr-weaker}
use Rattle.keyed_jobs.proofs.ReadLemmas.{table-gathered}
use Rattle.keyed_tables.specs.Arranged.{noted}
use Rattle.keyed_jobs.proofs.NotedLemmas.{keys-noted, keys-placed, on-ok}
use Rattle.keyed_files.proofs.ReadingLemmas.{same-err}
use Rattle.keyed_jobs.specs.Unread.{ExplainsUnread}
use Rattle.keyed_jobs.proofs.UnreadLemmas.{told-of, why-gathered}
use Rattle.keyed_jobs.proofs.job.Job.read_beside.Goals as goal

pub returns-clause-table : goal.returns-clause-table
returns-clause-table g c =
    IfOk-weaker c.take_rows.result _ _
    (λ table gathered. table-gathered g.R.Read.remaining c.args.self.now.groups c.args.columns.now c.args.table.now.source.value c.new-rows.result.items
    c.read_rows.new.rows.items table.pairs.items c.new-rows.ensures.items (rw c.in_ok-at.ensures.value at c.read_rows.ensures.read) gathered) c.take_rows.ensures.table

pub returns-clause-notes : goal.returns-clause-notes
returns-clause-notes g c =
    let columns = c.args.columns.now in
    let source = c.args.table.now.source.value in
    let before = noted c.args.self.now.order in
    let begun = noted c.begun-order.result in
    let there = noted c.read_rows.new.order in
    on-ok c.take_rows.result
    (keys-placed g.R.Read.remaining columns source before begun there (noted c.take_rows.new.self.order) c.begun-order.ensures
    (ap (λ job. noted job.order) c.take_rows.ensures.same ∙ (rw c.in_ok-self.ensures.value at c.placed.ensures))
    (keys-noted g.R.Read.remaining columns source c.new-rows.result.items c.read_rows.new.rows.items begun there c.new-rows.ensures.items
    (rw c.in_ok-at.ensures.value at c.read_rows.ensures.read) (rw c.in_ok-at.ensures.value at c.read_rows.ensures.notes)))

pub returns-in_err-at-clause-why : goal.returns-in_err-at-clause-why
returns-in_err-at-clause-why g c =
    same-err c.from_residual.result c.in_err-at.field-0.0 _ c.from_residual.ensures.1
    (inl (told-of (ExplainsUnread g.R.Read.remaining c.args.columns.now c.args.table.now.source.value) c.read_rows.result c.in_err-at.field-0.0
    c.in_err-at.ensures.why c.read_rows.ensures.why))

pub returns-clause-why : goal.returns-clause-why
returns-clause-why g c =
    IfErr-weaker c.take_rows.result _ _
    (λ fault why. why-gathered g.R.Read.remaining c.args.self.now.groups c.args.columns.now c.args.table.now.source.value c.new-rows.result.items c.read_rows.new.rows.items
    fault.reason c.new-rows.ensures.items (rw c.in_ok-at.ensures.value at c.read_rows.ensures.read) why) c.take_rows.ensures.why
