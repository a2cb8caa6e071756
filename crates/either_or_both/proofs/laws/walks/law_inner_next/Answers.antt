use Rattle.either_or_both.specs.EitherInner.{inner_held}
use Rattle.either_or_both.proofs.EitherEndsLemmas.{always_next}
use Rattle.either_or_both.proofs.laws.walks.law_inner_next.Goals as goal

pub returns : goal.returns
returns g c = λ s r t e v xs h. always_next g.T.Iterator.next_gives v (inner_held s) xs r (inner_held t) h e
