use Rattle.eob_joins.specs.Settled.{KeptAs}
use Rattle.eob_joins.specs.Marked.{MarkedAs}
use Rattle.eob_joins.proofs.marked.marked_rows.Given as goal

abbrev pub invariant-loop-key : goal.invariant-loop-key
invariant-loop-key g l = KeptAs (MarkedAs g.V.PartialEq.eq (g.S.Settle.can l.rule) (g.S.Settle.gives l.rule)) l.yielded l.rows.items
