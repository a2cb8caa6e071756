use Rattle.std.proofs.Common.{map, take}
use Rattle.keyed_columns.specs.ColumnNames.{all_names}
use Rattle.keyed_columns.specs.NewColumns.{HasSeen}
use Rattle.keyed_columns.proofs.columns.Columns.new.Given as goal

abbrev pub invariant-loop-header : goal.invariant-loop-header
invariant-loop-header l = HasSeen l.fn.key (all_names (map (λ header. header.now) (take l.header-index l.headers))) l.new
