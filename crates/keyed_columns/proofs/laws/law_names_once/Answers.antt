use Rattle.keyed_columns.proofs.LawLemmas.{names-once}
use Rattle.keyed_columns.proofs.laws.law_names_once.Goals as goal

pub returns : goal.returns
returns c = names-once
