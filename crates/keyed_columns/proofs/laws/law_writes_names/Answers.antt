use Rattle.keyed_columns.proofs.LawLemmas.{writes-names}
use Rattle.keyed_columns.proofs.laws.law_writes_names.Goals as goal

pub returns : goal.returns
returns c = writes-names
