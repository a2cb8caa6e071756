use Rattle.eob_both.proofs.ChainLemmas.{chain_to_come}
use Rattle.eob_both.proofs.laws.walks.law_chain_to_come.Goals as goal

pub returns : goal.returns
returns g c = λ v p q s a b. chain_to_come _ v p q s a b
