use Rattle.std.proofs.Common.{sym, ◌∙◌}
use Rattle.eob_both.proofs.RunLemmas.{whole_items}
use Rattle.eob_both.proofs.RevLemmas.{rev_gives}
use Rattle.eob_known_lists.proofs.OwnLemmas.{map_as_is}
use Rattle.eob_known_lists.proofs.listed.law_rev.Goals as goal

pub returns : goal.returns
returns g c = λ p _ from w. sym (map_as_is g.I.ListedIter.view g.met.I.OwnIter.as_is p.items)
    ∙ whole_items p from w (rev_gives c.args._walk.now (g.met.I.ListedIter.comes _))
