use Rattle.std.proofs.Common.{◌≡◌, subst, inl, inr}
use Rattle.keyed_jobs.specs.ChangesRead.{ReadsChanges}
use Rattle.keyed_columns.specs.declared.content.Content.TheVariants as content
use Rattle.keyed_tables.specs.Arranged.{noted}
use Rattle.keyed_jobs.specs.FileOrder.{OfKeys, noted_with}
use Rattle.keyed_files.proofs.ReadingLemmas.{same-err}
use Rattle.keyed_jobs.specs.Unread.{ExplainsChanges}
use Rattle.keyed_jobs.proofs.job.Job+Columns.read_to_change.Goals as goal

pub returns-clause-changes : goal.returns-clause-changes
returns-clause-changes g c =
    subst (λ job. ReadsChanges g.R.Read.remaining job.groups job.columns.now c.args.inputs.now.next.source.value c.in_ok-changes.changes.pairs.items)
    c.in_ok-rows.ensures.same c.in_ok-changes.ensures.changes

pub returns-clause-notes : goal.returns-clause-notes
returns-clause-notes g c = record {
  mid = noted c.read_table.new.self.order;
  first_noted = c.in_ok-rows.ensures.notes;
  next_noted = subst (λ job. OfKeys g.R.Read.remaining content.Changes job.columns.now c.args.inputs.now.next.source.value (λ keys. noted c.read_changes.new.self.order ≡ noted_with (noted c.read_table.new.self.order) keys))
      c.in_ok-rows.ensures.same c.in_ok-changes.ensures.notes;
}

pub returns-in_err-rows-clause-why : goal.returns-in_err-rows-clause-why
returns-in_err-rows-clause-why g c =
    same-err c.from_residual.result c.in_err-rows.field-0.0 _ c.from_residual.ensures.1 (inl (c.in_err-rows.ensures.file, c.in_err-rows.ensures.why))

pub returns-in_err-changes-clause-why : goal.returns-in_err-changes-clause-why
returns-in_err-changes-clause-why g c =
    same-err c.from_residual-in_err-changes.result c.in_err-changes.field-0.0 _ c.from_residual-in_err-changes.ensures.1
    (inr (
      c.in_err-changes.ensures.file,
      subst (λ job. ExplainsChanges g.R.Read.remaining job.groups job.columns.now c.args.inputs.now.next.source.value c.in_err-changes.field-0.0.reason)
          c.in_ok-rows.ensures.same c.in_err-changes.ensures.why,
    ))
