use Rattle.eob_joins.proofs.MarkedLemmas.{by_row}
use Rattle.eob_joins.proofs.VersionLemmas.{merge_law}
use Rattle.eob_joins.specs.Marked.{merged_of}
use Rattle.keyed_tables.proofs.parted.parted_merge_of.Goals as goal

pub returns : goal.returns
returns g c =
    let merged = merged_of c.in_ok-parted.parted in
    merge_law g.K.Ord.cmp g.met.K.Ord.total g.V.PartialEq.eq merged c.args.base.pairs.items c.args.ours.pairs.items c.args.theirs.pairs.items
    (by_row g.V.PartialEq.eq g.K.Ord.cmp c.args.base.pairs.items c.args.ours.pairs.items c.args.theirs.pairs.items merged c.in_ok-parted.ensures.rows)
