use Rattle.std.proofs.Common.{◌∙◌, ap}
use Rattle.eob_lists.specs.OuterJoin.{pairs_left}
use Rattle.eob_lists.proofs.JoinRefsLemmas.{shown_walk}
use Rattle.eob_lists.proofs.join.refs.outer_join_slices.Goals as goal

pub returns-clause-runs : goal.returns-clause-runs
returns-clause-runs g c p seen from =
    let h = c.outer_join_refs.ensures.runs in
    shown_walk g.K.Ord.cmp pairs_left pairs_left g.met.K.Ord.total c.args.left.now c.args.right.now c.requires.left c.requires.right
    _ h.0 h.1 (ap pairs_left h.2 ∙ c.new.ensures) (ap pairs_left h.3 ∙ c.new-2.ensures) h.4 p from
