use Rattle.keyed_reports.specs.RowChanges.{rows_eq, rows_of_key}
use Rattle.keyed_reports.proofs.RowLemmas.{piece_put}
use Rattle.keyed_reports.proofs.changed_rows.row_changes.Goals as goal

pub loop-key-preserved : goal.loop-key-preserved
loop-key-preserved c = piece_put (rows_of_key rows_eq c.args.groups) c.args.changes.now c.loop-key.key-index c.loop-key-item.result _ _ c.loop-key-test.true c.loop-key-item.is c.in_ok-push_shown.ensures c.loop-key.invariant
