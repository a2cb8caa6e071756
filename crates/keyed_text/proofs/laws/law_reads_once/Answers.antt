use Rattle.keyed_text.proofs.TextLemmas.{rows-once}
use Rattle.keyed_text.proofs.laws.law_reads_once.Goals as goal

pub returns : goal.returns
returns c = rows-once
