use Rattle.either_or_both.specs.Places.{left_place, right_place}
use Rattle.either_or_both.proofs.StdEnds.{items_of, vec_place}
use Rattle.test_memory.proofs.driving.drive.Goals as goal

-- the two vectors have their lists still to come
pub drive_swap-requires : goal.drive_swap-requires
drive_swap-requires c = (
  record { view = λ x. x; items = items_of (left_place c.args.pair) },
  record { view = λ x. x; items = items_of (right_place c.args.pair) },
  vec_place _ (λ v s e. e.0) (left_place c.args.pair),
  vec_place _ (λ v s e. e.0) (right_place c.args.pair),
)
