use Rattle.std.proofs.Common.{◌≡◌, ◌++◌, drop}
use Rattle.keyed_columns.specs.Placed.{placed}
use Rattle.keyed_jobs.proofs.rejected.names_in_order.Given as goal

abbrev pub invariant-loop-place : goal.invariant-loop-place
invariant-loop-place l = record {
  key : l.cells.key.cells.now ≡ l.columns.key;
  placed : l.names ++ placed (drop l.place-index l.columns.order.items) l.columns.key l.cells.rest ≡ placed l.columns.order.items l.columns.key l.columns.rest;
}
