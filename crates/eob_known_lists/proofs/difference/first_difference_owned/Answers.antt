use Rattle.eob_known_lists.proofs.NthLemmas.{reads_places}
use Rattle.eob_known_lists.proofs.PlaceLemmas.{by_places}
use Rattle.eob_known_lists.proofs.difference.first_difference_owned.Goals as goal

pub returns : goal.returns
returns g c =
    let h = c.first_difference.ensures in
    by_places g.T.PartialEq.eq h.0 h.2.0 _ _
    (reads_places _ g.I.ListedIter.view g.met.I.OwnIter.as_is _ _ (g.met.I.ListedIter.comes _) h.0 h.1)
    (reads_places _ g.J.ListedIter.view g.met.J.OwnIter.as_is _ _ (g.met.J.ListedIter.comes _) h.2.0 h.2.1)
    c.first_difference.result h.2.2.0 h.2.2.1
