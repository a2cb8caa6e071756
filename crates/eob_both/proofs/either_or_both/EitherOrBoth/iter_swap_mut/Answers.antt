use Rattle.eob_both.specs.Swap.{swap_left, swap_right}
use Rattle.eob_both.proofs.RunLemmas.{swap_runs, left_behind, right_behind}
use Rattle.eob_both.proofs.either_or_both.EitherOrBoth.iter_swap_mut.Goals as goal

pub returns-clause-left_side : goal.returns-clause-left_side
returns-clause-left_side g c = left_behind (λ p. p.now) (λ q. q.now) _ c.as_mut.result c.args.self.now (swap_left c.into_iter_swap.result) c.as_mut.ensures.value c.into_iter_swap.ensures.left_side

pub returns-clause-right_side : goal.returns-clause-right_side
returns-clause-right_side g c = right_behind (λ p. p.now) (λ q. q.now) _ c.as_mut.result c.args.self.now (swap_right c.into_iter_swap.result) c.as_mut.ensures.value c.into_iter_swap.ensures.right_side

pub returns-clause-runs : goal.returns-clause-runs
returns-clause-runs g c = swap_runs g.IntoIter-as-Iterator-1.next_gives g.IntoIter-as-Iterator-2.next_gives _ _ c.args.self.now c.into_iter_swap.result (returns-clause-left_side g c) (returns-clause-right_side g c)
