use Rattle.keyed_jobs.specs.Rejected.{applied_where_fits, rejected_at}
use Rattle.keyed_jobs.proofs.RejectedLemmas.{kept-more}
use Rattle.keyed_jobs.proofs.parted.part_rows.Goals as goal

pub loop-row-preserved : goal.loop-row-preserved
loop-row-preserved c = record {
  rows = kept-more applied_where_fits _ _ c.loop-row.yielded c.in-Some.row c.in_ok-parted.parted.row c.loop-row.invariant.rows c.in_ok-parted.ensures.row c.in_ok-put_some.ensures;
  rejected = kept-more rejected_at _ _ c.loop-row.yielded c.in-Some.row c.in_ok-parted.parted.rejected c.loop-row.invariant.rejected c.in_ok-parted.ensures.rejected
      c.in_ok-put_some-2.ensures;
}
