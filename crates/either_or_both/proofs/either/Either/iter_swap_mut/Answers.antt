use Rattle.either_or_both.specs.Either.{left_place, right_place}
use Rattle.either_or_both.specs.EitherSwap.{swap_side}
use Rattle.either_or_both.proofs.EitherRunLemmas.{swap_made, left_behind, right_behind}
use Rattle.either_or_both.proofs.either.Either.iter_swap_mut.Goals as goal

pub returns-clause-left_side : goal.returns-clause-left_side
returns-clause-left_side g c = left_behind (λ p. p.now) (λ q. q.now) _ c.as_mut.result c.args.self.now (left_place (swap_side c.into_iter_swap.result)) c.as_mut.ensures.value c.into_iter_swap.ensures.left_side

pub returns-clause-right_side : goal.returns-clause-right_side
returns-clause-right_side g c = right_behind (λ p. p.now) (λ q. q.now) _ c.as_mut.result c.args.self.now (right_place (swap_side c.into_iter_swap.result)) c.as_mut.ensures.value c.into_iter_swap.ensures.right_side

pub returns-clause-runs : goal.returns-clause-runs
returns-clause-runs g c = swap_made g.IntoIter-as-Iterator-1.next_gives g.IntoIter-as-Iterator-2.next_gives _ _ c.args.self.now c.into_iter_swap.result (returns-clause-left_side g c) (returns-clause-right_side g c)
