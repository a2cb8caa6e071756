use Rattle.std.proofs.Common.{◌≡◌, true, length, sym, ap, ◌∙◌}
use Rattle.eob_both.specs.Ends.{HasBound}
use Rattle.eob_both.proofs.EndsLemmas.{to_come_forward}
use Rattle.eob_both.proofs.RunLemmas.{whole_items}
use Rattle.eob_known_lists.proofs.OwnLemmas.{map_as_is}
use Rattle.eob_known_lists.proofs.listed.law_forward.Goals as goal

pub returns : goal.returns
returns g c = λ p _ from.
    let all = λ (w : p.whole ≡ true). sym (map_as_is g.I.ListedIter.view g.met.I.OwnIter.as_is p.items)
    ∙ whole_items p from w (record { runs = to_come_forward HasBound _ g.I.ListedIter.view _ _ (g.met.I.ListedIter.comes _) }) in
    (all, λ w. p.long ∙ ap length (all w))
