use Rattle.keyed_text.proofs.TextLemmas.{sheet-back}
use Rattle.keyed_text.proofs.laws.law_reads_back.Goals as goal

pub returns : goal.returns
returns c = sheet-back
