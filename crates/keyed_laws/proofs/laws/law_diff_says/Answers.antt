use Rattle.keyed_laws.proofs.TextLawLemmas.{diff-says-law}
use Rattle.keyed_laws.proofs.laws.law_diff_says.Goals as goal

pub returns : goal.returns
returns c = diff-says-law
