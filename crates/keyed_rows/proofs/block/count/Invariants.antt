use Rattle.std.proofs.Common.{◌≡◌, ◌+◌, length}
use Rattle.keyed_rows.specs.Layout.{IsBlock, cells_of}
use Rattle.keyed_rows.proofs.block.count.Given as goal

abbrev pub invariant-loop-rest : goal.invariant-loop-rest
invariant-loop-rest l = record {
  rest : IsBlock l.rest;
  all : l.count + length (cells_of l.rest) ≡ length (cells_of l.fn.block);
}

abbrev pub decreases-loop-rest : goal.decreases-loop-rest
decreases-loop-rest l = length l.rest
