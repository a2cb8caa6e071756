use Rattle.eob_both.specs.Places.{left_place}
use Rattle.keyed_tables.specs.Completed.{completed_at}
use Rattle.keyed_tables.proofs.CompletedLemmas.{kept-more}
use Rattle.keyed_tables.proofs.complete.complete_rows.Goals as goal

pub loop-row-preserved : goal.loop-row-preserved
loop-row-preserved c = record {
  old = kept-more left_place _ _ c.loop-row.yielded c.in-Some.row c.loop-row.invariant.old c.in_ok-put_row.ensures.old;
  changes = kept-more (completed_at c.args.missing.now) _ _ c.loop-row.yielded c.in-Some.row c.loop-row.invariant.changes c.in_ok-put_row.ensures.changes;
}
