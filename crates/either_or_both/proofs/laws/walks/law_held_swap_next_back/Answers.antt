use Rattle.eob_both.specs.Ends.{HasBound}
use Rattle.either_or_both.proofs.EitherEndsLemmas.{held_swap_back}
use Rattle.either_or_both.proofs.laws.walks.law_held_swap_next_back.Goals as goal

pub returns : goal.returns
returns g c = λ s r t e v w zs h. held_swap_back _ _ v w HasBound zs s r t h e
