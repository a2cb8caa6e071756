use Rattle.keyed_columns.proofs.LawLemmas.{puts-back}
use Rattle.keyed_columns.proofs.laws.law_puts_back.Goals as goal

pub returns : goal.returns
returns c = puts-back
