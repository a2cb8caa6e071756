use Rattle.std.proofs.Common.{◌∙◌, ap}
use Rattle.eob_lists.proofs.JoinRefsLemmas.{shown_walk}
use Rattle.eob_joins.specs.KeySlices.{slices_left, slices_of}
use Rattle.eob_joins.proofs.group_refs.group_join_slices.Goals as goal

pub returns-clause-runs : goal.returns-clause-runs
returns-clause-runs g c p seen from =
    let cmp = g.K.Ord.cmp in
    let h = c.outer_join_lazily.ensures.runs in
    shown_walk cmp (slices_left cmp) (slices_left cmp) g.met.K.Ord.total (slices_of cmp c.args.left.now) (slices_of cmp c.args.right.now)
    c.groups_of.ensures.slices.rises c.groups_of-2.ensures.slices.rises _ h.0 h.1 (ap (slices_left cmp) h.2 ∙ c.groups_of.ensures.rest)
    (ap (slices_left cmp) h.3 ∙ c.groups_of-2.ensures.rest) h.4 p from
