use Rattle.std.proofs.Common.{ap, inl}
use Rattle.std.proofs.lemmas.Result.{IfOk-weaker, IfErr-weaker}
use Rattle.keyed_tables.specs.Arranged.{noted}
use Rattle.keyed_jobs.proofs.SignedLemmas.{changes-paired}
use Rattle.keyed_columns.specs.declared.content.Content.TheVariants as content
use Rattle.keyed_jobs.specs.FileOrder.{noted_with}
use Rattle.keyed_jobs.proofs.NotedLemmas.{changes-noted, keys-as, on-ok}
use Rattle.keyed_files.proofs.ReadingLemmas.{same-err}
use Rattle.keyed_jobs.specs.Unread.{ExplainsUnread}
use Rattle.keyed_jobs.proofs.UnreadLemmas.{told-of, why-paired}
use Rattle.keyed_jobs.proofs.job.Job+Columns.read_changes.Goals as goal

pub returns-clause-changes : goal.returns-clause-changes
returns-clause-changes g c =
    IfOk-weaker c.take_changes.result _ _
    (λ changes paired. changes-paired g.R.Read.remaining c.args.self.now.groups c.args.self.now.columns.now c.args.changes.now.source.value
    c.new-gone.result.items c.read_signed-outcome.new.gone.items c.new-come.result.items c.read_signed-outcome.new.come.items changes.pairs.items (noted c.args.self.now.order) (noted c.read_signed-outcome.new.order)
    c.new-gone.ensures.items c.new-come.ensures.items (rw c.in_ok-at.ensures.value at c.read_signed-outcome.ensures.read) paired) c.take_changes.ensures.changes

pub returns-clause-notes : goal.returns-clause-notes
returns-clause-notes g c =
    let before = noted c.args.self.now.order in
    let after = noted c.read_signed-outcome.new.order in
    on-ok c.take_changes.result
    (keys-as g.R.Read.remaining content.Changes c.args.self.now.columns.now c.args.changes.now.source.value (noted_with before) after (noted c.take_changes.new.self.order)
    (ap (λ job. noted job.order) c.take_changes.ensures.same)
    (changes-noted g.R.Read.remaining c.args.self.now.columns.now c.args.changes.now.source.value c.new-gone.result.items c.read_signed-outcome.new.gone.items
    c.new-come.result.items c.read_signed-outcome.new.come.items before after (rw c.in_ok-at.ensures.value at c.read_signed-outcome.ensures.read)))

pub returns-in_err-at-clause-why : goal.returns-in_err-at-clause-why
returns-in_err-at-clause-why g c =
    same-err c.from_residual.result c.in_err-at.field-0.0 _ c.from_residual.ensures.1
    (inl (told-of (ExplainsUnread g.R.Read.remaining c.args.self.now.columns.now c.args.changes.now.source.value) c.read_signed-outcome.result c.in_err-at.field-0.0
    c.in_err-at.ensures.why c.read_signed-outcome.ensures.why))

pub returns-clause-why : goal.returns-clause-why
returns-clause-why g c =
    IfErr-weaker c.take_changes.result _ _
    (λ fault why. why-paired g.R.Read.remaining c.args.self.now.groups c.args.self.now.columns.now c.args.changes.now.source.value
    c.new-gone.result.items c.read_signed-outcome.new.gone.items c.new-come.result.items c.read_signed-outcome.new.come.items (noted c.args.self.now.order)
    (noted c.read_signed-outcome.new.order) fault.reason c.new-gone.ensures.items c.new-come.ensures.items (rw c.in_ok-at.ensures.value at c.read_signed-outcome.ensures.read) why)
    c.take_changes.ensures.why
