use Rattle.eob_lists.proofs.AnswersLemmas.{whole_walk}
use Rattle.eob_lists.proofs.laws.drive.law_whole_walk.Goals as goal

pub returns : goal.returns
returns g c = whole_walk
