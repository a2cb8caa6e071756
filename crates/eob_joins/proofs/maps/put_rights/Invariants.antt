use Rattle.eob_joins.specs.MapJoin.{AddsRights}
use Rattle.eob_joins.proofs.maps.put_rights.Given as goal

abbrev pub invariant-loop-key : goal.invariant-loop-key
invariant-loop-key g l = AddsRights g.K.PartialEq.eq g.row.A.Denot l.yielded l.fn.rows.entries l.rows.entries
