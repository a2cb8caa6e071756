use Rattle.std.proofs.Common.{refl}
use Rattle.keyed_columns.specs.ColumnNames.{distinct}
use Rattle.keyed_columns.proofs.columns.NewColumns.new.Goals as goal

pub returns : goal.returns
unfolding distinct
returns c = record { seen = c.new-3.ensures; columns = record { key = refl; rest = c.new.ensures; order = c.new-2.ensures.items } }
