use Rattle.eob_both.specs.Chain.{chain_left, chain_right}
use Rattle.eob_both.proofs.RunLemmas.{chain_runs, left_behind, right_behind}
use Rattle.eob_both.proofs.walks.EitherOrBoth+T+T.iter_chain_mut.Goals as goal

pub returns-clause-left_side : goal.returns-clause-left_side
returns-clause-left_side g c = left_behind (λ p. p.now) (λ q. q.now) _ c.as_mut.result c.args.self.now (chain_left c.into_iter_chain.result) c.as_mut.ensures.value c.into_iter_chain.ensures.left_side

pub returns-clause-right_side : goal.returns-clause-right_side
returns-clause-right_side g c = right_behind (λ p. p.now) (λ q. q.now) _ c.as_mut.result c.args.self.now (chain_right c.into_iter_chain.result) c.as_mut.ensures.value c.into_iter_chain.ensures.right_side

pub returns-clause-runs : goal.returns-clause-runs
returns-clause-runs g c = chain_runs g.IntoIter-as-Iterator.next_gives _ c.args.self.now c.into_iter_chain.result (returns-clause-left_side g c) (returns-clause-right_side g c)
