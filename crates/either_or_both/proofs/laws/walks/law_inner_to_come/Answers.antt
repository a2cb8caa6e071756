use Rattle.eob_both.specs.Ends.{HasBound}
use Rattle.either_or_both.proofs.EitherEndsLemmas.{inner_to_come}
use Rattle.either_or_both.proofs.laws.walks.law_inner_to_come.Goals as goal

pub returns : goal.returns
returns g c = λ v xs s h. inner_to_come _ v HasBound xs s h
