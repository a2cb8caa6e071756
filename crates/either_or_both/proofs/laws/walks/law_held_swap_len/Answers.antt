use Rattle.eob_both.specs.Ends.{IsExactly}
use Rattle.either_or_both.specs.Either.{map_places}
use Rattle.either_or_both.proofs.EitherEndsLemmas.{held_swap_to_come, counted_len}
use Rattle.either_or_both.proofs.laws.walks.law_held_swap_len.Goals as goal

pub returns : goal.returns
returns g c = λ v w zs s h. let k = held_swap_to_come _ _ v w IsExactly zs s h in (k, counted_len _ (map_places v w) zs s k)
