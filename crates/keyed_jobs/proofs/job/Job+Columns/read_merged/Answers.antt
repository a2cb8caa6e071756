use Rattle.std.proofs.Common.{◌≡◌, subst, inl, inr}
use Rattle.keyed_jobs.specs.TablesRead.{ReadsTable}
use Rattle.keyed_columns.specs.declared.content.Content.TheVariants as content
use Rattle.keyed_tables.specs.Arranged.{noted}
use Rattle.keyed_jobs.specs.FileOrder.{OfKeys, placed_with}
use Rattle.keyed_files.proofs.ReadingLemmas.{same-err}
use Rattle.keyed_jobs.specs.Unread.{ExplainsTable}
use Rattle.keyed_jobs.proofs.job.Job+Columns.read_merged.Goals as goal

pub returns-clause-theirs : goal.returns-clause-theirs
returns-clause-theirs g c =
    subst (λ job. ReadsTable g.R.Read.remaining job.groups job.columns.now c.args.sides.now.next.source.value c.in_ok-theirs.theirs.pairs.items)
    c.in_ok-ours.ensures.same c.in_ok-theirs.ensures.table

pub returns-clause-notes : goal.returns-clause-notes
returns-clause-notes g c = record {
  mid = noted c.read_table.new.self.order;
  first_noted = c.in_ok-ours.ensures.notes;
  next_noted = subst (λ job. OfKeys g.R.Read.remaining content.Rows job.columns.now c.args.sides.now.next.source.value (λ keys. noted c.read_beside.new.self.order ≡ placed_with (noted c.read_table.new.self.order) keys))
      c.in_ok-ours.ensures.same c.in_ok-theirs.ensures.notes;
}

pub returns-in_err-ours-clause-why : goal.returns-in_err-ours-clause-why
returns-in_err-ours-clause-why g c =
    same-err c.from_residual.result c.in_err-ours.field-0.0 _ c.from_residual.ensures.1 (inl (c.in_err-ours.ensures.file, c.in_err-ours.ensures.why))

pub returns-in_err-theirs-clause-why : goal.returns-in_err-theirs-clause-why
returns-in_err-theirs-clause-why g c =
    same-err c.from_residual-in_err-theirs.result c.in_err-theirs.field-0.0 _ c.from_residual-in_err-theirs.ensures.1
    (inr (
      c.in_err-theirs.ensures.file,
      subst (λ job. ExplainsTable g.R.Read.remaining job.groups job.columns.now c.args.sides.now.next.source.value c.in_err-theirs.field-0.0.reason)
          c.in_ok-ours.ensures.same c.in_err-theirs.ensures.why,
    ))
