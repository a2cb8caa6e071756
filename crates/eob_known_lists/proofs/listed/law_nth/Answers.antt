use Rattle.eob_known_lists.proofs.NthLemmas.{reads_places}
use Rattle.eob_known_lists.proofs.listed.law_nth.Goals as goal

pub returns : goal.returns
returns g c = λ p seen from. reads_places _ g.I.ListedIter.view g.met.I.OwnIter.as_is _ _ (g.met.I.ListedIter.comes _) p from
