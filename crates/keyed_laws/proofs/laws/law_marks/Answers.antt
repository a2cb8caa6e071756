use Rattle.keyed_laws.proofs.MarkLawLemmas.{marks-law}
use Rattle.keyed_laws.proofs.laws.law_marks.Goals as goal

pub returns : goal.returns
returns c = marks-law
