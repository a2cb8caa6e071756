use Rattle.keyed_columns.proofs.LawLemmas.{keeps-names}
use Rattle.keyed_columns.proofs.laws.law_keeps_names.Goals as goal

pub returns : goal.returns
returns c = keeps-names
