use Rattle.std.proofs.Common.{◌≡◌, drop}
use Rattle.keyed_rows.specs.Layout.{IsBlock, cells_of}
use Rattle.keyed_rows.proofs.block.at.Given as goal

abbrev pub invariant-loop-i : goal.invariant-loop-i
invariant-loop-i l = record {
  rest : IsBlock l.rest;
  all : cells_of l.rest ≡ drop l.i (cells_of l.fn.block);
}
