use Rattle.std.proofs.Common.{◌∙◌, sym, subst}
use Rattle.eob_joins.specs.Marked.{IsPartedMerge}
use Rattle.eob_joins.proofs.MarkedLemmas.{parted_law}
use Rattle.eob_joins.proofs.settle.merged_with.Goals as goal

pub returns : goal.returns
returns g c =
    let eq = g.V.PartialEq.eq in
    let can = g.S.Settle.can c.args.settle.now in
    let gives = g.S.Settle.gives c.args.settle.now in
    subst (IsPartedMerge g.K.Ord.cmp eq can gives c.args.base.items c.args.ours.items c.args.theirs.items) (sym c.merged.ensures)
    (parted_law eq can gives g.K.Ord.cmp c.args.base.items c.args.ours.items c.args.theirs.items c.in_ok-rows.rows.items c.in_ok-parted.parted
    c.in_ok-rows.ensures c.in_ok-parted.ensures.settled c.in_ok-parted.ensures.unresolved)
