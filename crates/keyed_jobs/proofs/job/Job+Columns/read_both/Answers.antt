use Rattle.std.proofs.Common.{◌≡◌, subst, inl, inr}
use Rattle.keyed_jobs.specs.TablesRead.{ReadsTable}
use Rattle.keyed_columns.specs.declared.content.Content.TheVariants as content
use Rattle.keyed_tables.specs.Arranged.{noted}
use Rattle.keyed_jobs.specs.FileOrder.{OfKeys, noted_with}
use Rattle.keyed_files.proofs.ReadingLemmas.{same-err}
use Rattle.keyed_jobs.specs.Unread.{ExplainsTable}
use Rattle.keyed_jobs.proofs.job.Job+Columns.read_both.Goals as goal

pub returns-clause-next : goal.returns-clause-next
returns-clause-next g c =
    subst (λ job. ReadsTable g.R.Read.remaining job.groups job.columns.now c.args.tables.now.next.source.value c.in_ok-next.next.pairs.items)
    c.in_ok-first.ensures.same c.in_ok-next.ensures.table

pub returns-clause-notes : goal.returns-clause-notes
returns-clause-notes g c = record {
  mid = noted c.read_table.new.self.order;
  first_noted = c.in_ok-first.ensures.notes;
  next_noted = subst (λ job. OfKeys g.R.Read.remaining content.Rows job.columns.now c.args.tables.now.next.source.value (λ keys. noted c.read_table-2.new.self.order ≡ noted_with (noted c.read_table.new.self.order) keys))
      c.in_ok-first.ensures.same c.in_ok-next.ensures.notes;
}

pub returns-in_err-first-clause-why : goal.returns-in_err-first-clause-why
returns-in_err-first-clause-why g c =
    same-err c.from_residual.result c.in_err-first.field-0.0 _ c.from_residual.ensures.1 (inl (c.in_err-first.ensures.file, c.in_err-first.ensures.why))

pub returns-in_err-next-clause-why : goal.returns-in_err-next-clause-why
returns-in_err-next-clause-why g c =
    same-err c.from_residual-in_err-next.result c.in_err-next.field-0.0 _ c.from_residual-in_err-next.ensures.1
    (inr (
      c.in_err-next.ensures.file,
      subst (λ job. ExplainsTable g.R.Read.remaining job.groups job.columns.now c.args.tables.now.next.source.value c.in_err-next.field-0.0.reason)
          c.in_ok-first.ensures.same c.in_err-next.ensures.why,
    ))
