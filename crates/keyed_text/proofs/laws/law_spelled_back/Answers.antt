use Rattle.keyed_text.proofs.SpellingLemmas.{spelled-back}
use Rattle.keyed_text.proofs.laws.law_spelled_back.Goals as goal

pub returns : goal.returns
returns c = λ s d m parts begins row rows after. spelled-back d m parts begins s row rows after
