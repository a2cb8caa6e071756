use Rattle.keyed_faults.proofs.ApartLemmas.{shown_apart}
use Rattle.keyed_faults.proofs.laws.law_shown_apart.Goals as goal

pub returns : goal.returns
returns c = shown_apart
