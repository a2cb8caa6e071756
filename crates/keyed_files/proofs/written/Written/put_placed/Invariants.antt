use Rattle.std.proofs.Common.{◌≡◌, drop}
use Rattle.keyed_columns.specs.Placed.{placed}
use Rattle.keyed_files.specs.declared.written.Written.{Written}
use Rattle.keyed_files.specs.Writing.{PutsCells}
use Rattle.keyed_files.proofs.written.Written.put_placed.Given as goal

abbrev pub invariant-loop-place : goal.invariant-loop-place
invariant-loop-place l = record {
  key : l.cells.key.cells.now ≡ l.fn.key;
  puts : (end : Written) → PutsCells l.self end (placed (drop l.place-index l.order) l.fn.key l.cells.rest) → PutsCells l.fn.self end (placed l.order l.fn.key l.fn.rest);
}
