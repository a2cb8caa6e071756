use Rattle.eob_both.specs.Runs.{RefGives}
use Rattle.either_or_both.specs.EitherInner.{inner_held, inner_side}
use Rattle.either_or_both.proofs.EitherRunLemmas.{inner_made, held_behind, variant_behind}
use Rattle.either_or_both.proofs.either.walks.Either+T+T.iter_inner.Goals as goal

pub returns-clause-side : goal.returns-clause-side
returns-clause-side g c = held_behind (λ p. p.now) g.bound-1.into_iter_gives c.as_ref.result c.args.self.now (inner_held c.into_iter_inner.result) c.as_ref.ensures c.into_iter_inner.ensures.side

pub returns-clause-runs : goal.returns-clause-runs
returns-clause-runs g c = inner_made g.IntoIter-as-Iterator.next_gives (RefGives g.bound-1.into_iter_gives) c.args.self.now c.into_iter_inner.result (returns-clause-side g c)
    (variant_behind (λ p. p.now) c.as_ref.result c.args.self.now c.as_ref.ensures (inner_side c.into_iter_inner.result) c.into_iter_inner.ensures.runs.0 c.into_iter_inner.ensures.runs.3)
