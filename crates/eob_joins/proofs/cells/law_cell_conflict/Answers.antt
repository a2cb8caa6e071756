use Rattle.eob_joins.proofs.CellLemmas.{clash_law}
use Rattle.eob_joins.proofs.cells.law_cell_conflict.Goals as goal

pub returns : goal.returns
returns g c = clash_law g.C.PartialEq.eq
