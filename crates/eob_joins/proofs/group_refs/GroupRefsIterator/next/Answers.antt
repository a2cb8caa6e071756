use Rattle.std.proofs.Common.{arith, ap, length}
use Rattle.eob_joins.proofs.KeySliceLemmas.{cut_slice}
use Rattle.eob_joins.proofs.group_refs.GroupRefsIterator.next.Goals as goal

pub returns-in-Some-clause-steps : goal.returns-in-Some-clause-steps
returns-in-Some-clause-steps g c =
    cut_slice g.K.Ord.cmp g.met.K.Ord.total c.in-Some.first.now c.in-Some.others.now c.args.self.now.rest.now c.split_at-in-Some.result.0.now c.split_at.result.1.now
    c.run_length.result _ c.in-Some.ensures.cases.0 c.run_length.ensures.count c.split_at.ensures.back
    (omega (arith, c.in-Some.ensures.cases.1, c.split_at.ensures.back_len)) c.split_at-in-Some.ensures.front

pub returns-in-Some-clause-goes : goal.returns-in-Some-clause-goes
returns-in-Some-clause-goes g c =
    let fewer = ap length (returns-in-Some-clause-steps g c) in
    record { on = λ u. (tt, tt, omega (arith, fewer)); keeps = tt; rests = λ u. tt }
