use Rattle.std.proofs.Common.{◌≡◌, length}
use Rattle.std.specs.Cmp.Lexicographic.{slice_cmp}
use Rattle.std.specs.Ordering.{nat_cmp}
use Rattle.keyed_rows.specs.Layout.{IsBlock, cells_of}
use Rattle.keyed_rows.proofs.block.compare.Given as goal

abbrev pub invariant-loop-left : goal.invariant-loop-left
invariant-loop-left l = record {
  left : IsBlock l.left;
  right : IsBlock l.right;
  order : slice_cmp (slice_cmp nat_cmp) (cells_of l.left) (cells_of l.right) ≡ slice_cmp (slice_cmp nat_cmp) (cells_of l.fn.block) (cells_of l.fn.other);
}

abbrev pub decreases-loop-left : goal.decreases-loop-left
decreases-loop-left l = length l.left
