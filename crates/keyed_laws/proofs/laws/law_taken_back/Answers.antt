use Rattle.keyed_laws.proofs.TakenBackLemmas.{taken-back, taken-back-fits}
use Rattle.keyed_laws.proofs.laws.law_taken_back.Goals as goal

pub returns : goal.returns
returns c = record { fits = taken-back-fits; back = taken-back }
