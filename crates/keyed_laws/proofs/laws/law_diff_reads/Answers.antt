use Rattle.keyed_laws.proofs.LawLemmas.{diff_reads}
use Rattle.keyed_laws.proofs.laws.law_diff_reads.Goals as goal

pub returns : goal.returns
returns c = diff_reads
