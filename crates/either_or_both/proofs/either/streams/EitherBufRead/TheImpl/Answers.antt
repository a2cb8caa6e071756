-- `fill_buf` says more of what it leaves than its trait asks: the variant too.
use mathlib.Core.List.{[]}
use base.Logic.{emp, id⊢}
use contract.Monad.{fact_i}
use borrow.Fn.Refines.{by_parts}
use Rattle.either_or_both.specs.contracts.either.Either.{the_row}
use Rattle.either_or_both.proofs.either.streams.EitherBufRead.TheImpl.Goals as goal
use Rattle.either_or_both.proofs.RestsLemmas.{facts_and_rests_weaken}

pub fill_buf-meets : goal.fill_buf-meets
fill_buf-meets g c = by_parts g.world.𝓤 [] [] (emp g.world.𝓤) (emp g.world.𝓤) _ _ (λ _ _. []) (λ _ _. []) _ _
    (fact_i g.world.𝓤 (Unit {0}) (emp g.world.𝓤) tt) (λ _. id⊢ g.world.𝓤 (emp g.world.𝓤)) (λ r e. fact_i g.world.𝓤 (Unit {0}) _ tt)
    (λ r e _. facts_and_rests_weaken g.world.𝓛 (the_row g.row.L g.row.R) c.args.self _ _ (λ n x. x.0) _ _) (λ x. x) (λ _ _ _ x. x)
