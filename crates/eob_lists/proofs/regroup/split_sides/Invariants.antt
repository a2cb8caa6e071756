use Rattle.std.proofs.Common.{◌≡◌}
use Rattle.eob_both.specs.Sides.{lefts, rights}
use Rattle.eob_lists.proofs.regroup.split_sides.Given as goal

abbrev pub invariant-loop-value : goal.invariant-loop-value
invariant-loop-value g l = record {
  in_left : l.left.items ≡ lefts l.yielded;
  in_right : l.right.items ≡ rights l.yielded;
}
