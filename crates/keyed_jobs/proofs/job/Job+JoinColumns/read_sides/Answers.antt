use Rattle.std.proofs.Common.{subst, inl, inr}
use Rattle.keyed_jobs.specs.TablesRead.{ReadsTable}
use Rattle.keyed_tables.specs.Arranged.{noted}
use Rattle.keyed_files.proofs.ReadingLemmas.{same-err}
use Rattle.keyed_jobs.specs.Unread.{ExplainsTable}
use Rattle.keyed_jobs.proofs.job.Job+JoinColumns.read_sides.Goals as goal

pub returns-clause-right : goal.returns-clause-right
returns-clause-right g c =
    subst (λ job. ReadsTable g.R.Read.remaining job.groups c.args.self.now.columns.now.right c.args.sides.now.next.source.value c.in_ok-right.right.pairs.items)
    c.in_ok-left.ensures.same c.in_ok-right.ensures.table

pub returns-clause-notes : goal.returns-clause-notes
returns-clause-notes g c = record {
  mid = noted c.read_table.new.self.order;
  first_noted = c.in_ok-left.ensures.notes;
  next_noted = c.in_ok-right.ensures.notes;
}

pub returns-in_err-left-clause-why : goal.returns-in_err-left-clause-why
returns-in_err-left-clause-why g c =
    same-err c.from_residual.result c.in_err-left.field-0.0 _ c.from_residual.ensures.1 (inl (c.in_err-left.ensures.file, c.in_err-left.ensures.why))

pub returns-in_err-right-clause-why : goal.returns-in_err-right-clause-why
returns-in_err-right-clause-why g c =
    same-err c.from_residual-in_err-right.result c.in_err-right.field-0.0 _ c.from_residual-in_err-right.ensures.1
    (inr (
      c.in_err-right.ensures.file,
      subst (λ job. ExplainsTable g.R.Read.remaining job.groups c.args.self.now.columns.now.right c.args.sides.now.next.source.value c.in_err-right.field-0.0.reason)
          c.in_ok-left.ensures.same c.in_err-right.ensures.why,
    ))
