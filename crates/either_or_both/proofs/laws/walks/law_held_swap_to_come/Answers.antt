use Rattle.eob_both.specs.Ends.{HasBound}
use Rattle.either_or_both.proofs.EitherEndsLemmas.{held_swap_to_come}
use Rattle.either_or_both.proofs.laws.walks.law_held_swap_to_come.Goals as goal

pub returns : goal.returns
returns g c = λ v w zs s h. held_swap_to_come _ _ v w HasBound zs s h
