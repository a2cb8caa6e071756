use Rattle.std.proofs.Common.{◌≡◌}
use Rattle.eob_joins.specs.Tables.{kept}
use Rattle.keyed_jobs.specs.Rejected.{applied_where_fits, rejected_at}
use Rattle.keyed_jobs.proofs.parted.part_rows.Given as goal

abbrev pub invariant-loop-row : goal.invariant-loop-row
invariant-loop-row l = record {
  rows : l.rows.items ≡ kept applied_where_fits l.yielded;
  rejected : l.rejected.items ≡ kept rejected_at l.yielded;
}
