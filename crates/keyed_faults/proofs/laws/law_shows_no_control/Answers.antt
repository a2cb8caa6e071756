use Rattle.keyed_faults.proofs.StillLemmas.{shows_no_control}
use Rattle.keyed_faults.proofs.laws.law_shows_no_control.Goals as goal

pub returns : goal.returns
returns c = shows_no_control
