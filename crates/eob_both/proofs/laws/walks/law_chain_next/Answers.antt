use Rattle.eob_both.proofs.ChainLemmas.{chain_yields_front}
use Rattle.eob_both.proofs.laws.walks.law_chain_next.Goals as goal

pub returns : goal.returns
returns g c = λ s r t e v zs h. chain_yields_front g.T.Iterator.next_gives v zs s r t h e
