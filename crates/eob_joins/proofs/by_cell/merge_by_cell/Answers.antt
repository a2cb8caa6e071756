use Rattle.eob_joins.proofs.CellLemmas.{keeps_law}
use Rattle.eob_joins.proofs.by_cell.merge_by_cell.Goals as goal

pub returns-clause-cells : goal.returns-clause-cells
returns-clause-cells g c = keeps_law g.C.PartialEq.eq g.met.C.Eq.laws g.K.Ord.cmp c.args.base.items c.args.ours.items c.args.theirs.items c.in_ok-merge.merge c.in_ok-merge.ensures
