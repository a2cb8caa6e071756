use Rattle.std.proofs.Common.{◌∙◌}
use Rattle.eob_lists.proofs.JoinRefsLemmas.{shown_walk}
use Rattle.eob_lists.proofs.join.refs.outer_join_maps.Goals as goal

pub returns-clause-runs : goal.returns-clause-runs
returns-clause-runs g c p seen from =
    let h = c.outer_join_refs.ensures.runs in
    let xs = c.args.left.now.entries in
    let ys = c.args.right.now.entries in
    shown_walk g.K.Ord.cmp (λ s. s) (λ t. t) g.met.K.Ord.total xs ys (c.law_sorted_rises.ensures xs c.iter.ensures.ordered)
    (c.law_sorted_rises-2.ensures ys c.iter-2.ensures.ordered) _ h.0 h.1 (h.2 ∙ c.iter.ensures.rest) (h.3 ∙ c.iter-2.ensures.rest) h.4 p from
