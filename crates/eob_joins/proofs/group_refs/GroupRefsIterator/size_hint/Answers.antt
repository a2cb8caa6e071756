use Rattle.std.proofs.Common.{arith}
use Rattle.eob_joins.proofs.KeySliceLemmas.{slices_least, slices_most}
use Rattle.eob_joins.proofs.group_refs.GroupRefsIterator.size_hint.Goals as goal

pub returns-clause-lower : goal.returns-clause-lower
returns-clause-lower g c u =
    slices_least g.K.Ord.cmp c.args.self.now.rest.now c.min.result (omega (arith, c.min.ensures)) (omega (arith, c.min.ensures))

pub returns-clause-upper : goal.returns-clause-upper
returns-clause-upper g c = (tt, slices_most g.K.Ord.cmp c.args.self.now.rest.now)
