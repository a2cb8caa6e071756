use Rattle.std.proofs.Common.{subst}
use Rattle.eob_joins.specs.Versions.{IsMergeByKey}
use Rattle.eob_maps.proofs.MergeLemmas.{conflicts, whole}
use Rattle.eob_maps.proofs.merges.merge_maps.Goals as goal

pub returns-in_ok-map-in-Whole : goal.returns-in_ok-map-in-Whole
returns-in_ok-map-in-Whole g c =
    let merge = subst (IsMergeByKey g.K.Ord.cmp g.V.PartialEq.eq c.in_ok-base.base.items c.in_ok-ours.ours.items c.in_ok-theirs.theirs.items) c.in-Whole.is c.in_ok-rows.ensures.values in
    whole g.K.Ord.cmp g.V.PartialEq.eq c.in-Whole.rows c.in_ok-base.ensures.entries c.in_ok-ours.ensures.entries c.in_ok-theirs.ensures.entries c.in_ok-map-in-Whole.ensures merge

pub returns-in_ok-map-in-Conflicts : goal.returns-in_ok-map-in-Conflicts
returns-in_ok-map-in-Conflicts g c =
    let merge = subst (IsMergeByKey g.K.Ord.cmp g.V.PartialEq.eq c.in_ok-base.base.items c.in_ok-ours.ours.items c.in_ok-theirs.theirs.items) c.in-Conflicts.is c.in_ok-rows.ensures.values in
    conflicts g.K.Ord.cmp g.V.PartialEq.eq c.in-Conflicts.rows c.in_ok-base.ensures.entries c.in_ok-ours.ensures.entries c.in_ok-theirs.ensures.entries c.in_ok-map-in-Conflicts.ensures merge
