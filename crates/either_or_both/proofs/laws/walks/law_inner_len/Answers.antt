use Rattle.eob_both.specs.Ends.{IsExactly}
use Rattle.either_or_both.proofs.EitherEndsLemmas.{inner_to_come, counted_len}
use Rattle.either_or_both.proofs.laws.walks.law_inner_len.Goals as goal

pub returns : goal.returns
returns g c = λ v xs s h. let k = inner_to_come _ v IsExactly xs s h in (k, counted_len _ v xs s k)
