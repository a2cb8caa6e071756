use Rattle.keyed_columns.proofs.LawLemmas.{places-cells}
use Rattle.keyed_columns.proofs.laws.law_places_cells.Goals as goal

pub returns : goal.returns
returns c = places-cells
