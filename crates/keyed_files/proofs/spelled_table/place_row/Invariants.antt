use Rattle.std.proofs.Common.{◌≡◌, ◌++◌, drop}
use Rattle.keyed_columns.specs.Placed.{placed}
use Rattle.keyed_files.proofs.spelled_table.place_row.Given as goal

abbrev pub invariant-loop-place : goal.invariant-loop-place
invariant-loop-place l = record {
  key : l.cells.key.cells.now ≡ l.fn.key;
  row : l.row ++ placed (drop l.place-index l.order) l.fn.key l.cells.rest ≡ placed l.order l.fn.key l.fn.rest;
}
