use Rattle.either_or_both.specs.EitherInner.{inner_held}
use Rattle.eob_both.proofs.EndsLemmas.{to_come_back}
use Rattle.either_or_both.proofs.laws.walks.law_inner_next_back.Goals as goal

pub returns : goal.returns
returns g c = λ s r t e v xs h. to_come_back r (inner_held t) h e
