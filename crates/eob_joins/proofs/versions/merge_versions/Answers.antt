use Rattle.eob_joins.proofs.MarkedLemmas.{by_row}
use Rattle.eob_joins.proofs.VersionLemmas.{merge_law}
use Rattle.eob_joins.proofs.versions.merge_versions.Goals as goal

pub returns-clause-rows : goal.returns-clause-rows
returns-clause-rows g c = by_row g.V.PartialEq.eq g.K.Ord.cmp c.args.base.items c.args.ours.items c.args.theirs.items c.in_ok-merge.merge c.in_ok-merge.ensures

pub returns-clause-values : goal.returns-clause-values
returns-clause-values g c =
    merge_law g.K.Ord.cmp g.met.K.Ord.total g.V.PartialEq.eq c.in_ok-merge.merge c.args.base.items c.args.ours.items c.args.theirs.items
    (by_row g.V.PartialEq.eq g.K.Ord.cmp c.args.base.items c.args.ours.items c.args.theirs.items c.in_ok-merge.merge c.in_ok-merge.ensures)
