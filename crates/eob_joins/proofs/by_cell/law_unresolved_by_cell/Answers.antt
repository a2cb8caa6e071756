use Rattle.eob_joins.proofs.CellLemmas.{unresolved_law}
use Rattle.eob_joins.proofs.by_cell.law_unresolved_by_cell.Goals as goal

pub returns : goal.returns
returns g c = unresolved_law g.C.PartialEq.eq
