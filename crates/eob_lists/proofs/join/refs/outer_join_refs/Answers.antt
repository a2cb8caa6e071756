use Rattle.eob_lists.proofs.JoinRefsLemmas.{shown_run}
use Rattle.eob_lists.proofs.join.refs.outer_join_refs.Goals as goal

pub returns-clause-runs : goal.returns-clause-runs
returns-clause-runs g c =
    let h = c.outer_join_lazily.ensures.runs in
    (h.0, h.1, h.2, h.3, h.4, λ p seen from. shown_run g.K.Ord.cmp p h.0 h.1 (h.5 p seen from))
