use Rattle.eob_joins.proofs.MarkedLemmas.{by_key, parted_law}
use Rattle.eob_joins.specs.Marked.{merged_of}
use Rattle.keyed_tables.proofs.parted.parted_merge.Goals as goal

pub returns-clause-rows : goal.returns-clause-rows
returns-clause-rows g c =
    parted_law g.V.PartialEq.eq (g.S.Settle.can c.args.rule.now) (g.S.Settle.gives c.args.rule.now) g.K.Ord.cmp
    c.args.base.pairs.items c.args.ours.pairs.items c.args.theirs.pairs.items c.in_ok-rows.rows.items c.in_ok-parted.parted
    c.in_ok-rows.ensures c.in_ok-parted.ensures.settled c.in_ok-parted.ensures.unresolved

pub returns-clause-values : goal.returns-clause-values
returns-clause-values g c =
    let eq = g.V.PartialEq.eq in
    let can = g.S.Settle.can c.args.rule.now in
    let gives = g.S.Settle.gives c.args.rule.now in
    by_key eq can gives g.K.Ord.cmp g.met.K.Ord.total
    c.args.base.pairs.items c.args.ours.pairs.items c.args.theirs.pairs.items (merged_of c.in_ok-parted.parted)
    (parted_law eq can gives g.K.Ord.cmp c.args.base.pairs.items c.args.ours.pairs.items c.args.theirs.pairs.items c.in_ok-rows.rows.items c.in_ok-parted.parted
    c.in_ok-rows.ensures c.in_ok-parted.ensures.settled c.in_ok-parted.ensures.unresolved)
