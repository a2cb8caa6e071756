use Rattle.eob_both.proofs.ChainLemmas.{chain_comes_back}
use Rattle.eob_both.proofs.laws.walks.law_chain_next_back.Goals as goal

pub returns : goal.returns
returns g c = λ s r t e v zs h. chain_comes_back _ v zs s r t h e
