use Rattle.keyed_tables.proofs.PlaceLemmas.{key_placed_law}
use Rattle.keyed_tables.proofs.placed.law_placed.Goals as goal

pub returns : goal.returns
returns c = key_placed_law
