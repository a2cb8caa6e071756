use Rattle.keyed_laws.proofs.TextLawLemmas.{one-changes-law, one-table-law}
use Rattle.keyed_laws.proofs.laws.law_text_once.Goals as goal

pub returns : goal.returns
returns c = record { table = one-table-law; changes = one-changes-law }
