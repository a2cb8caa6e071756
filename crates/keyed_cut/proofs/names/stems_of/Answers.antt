use Rattle.std.proofs.Common.{refl}
use Rattle.keyed_columns.specs.Names.{repeats}
use Rattle.keyed_cut.proofs.names.stems_of.Goals as goal

pub returns-in-Two : goal.returns-in-Two
unfolding repeats
returns-in-Two c = record { apart = refl; once = refl }

pub returns-in-Three : goal.returns-in-Three
unfolding repeats
returns-in-Three c = record { apart = refl; once = refl }
