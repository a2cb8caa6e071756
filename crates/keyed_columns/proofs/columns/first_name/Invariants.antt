use Rattle.std.proofs.Common.{◌≡◌, [], drop, map}
use Rattle.keyed_columns.specs.ColumnNames.{all_names}
use Rattle.keyed_columns.proofs.columns.first_name.Given as goal

abbrev pub invariant-loop-header : goal.invariant-loop-header
invariant-loop-header l = record {
  none : l.key ≡ [];
  left : all_names (map (λ header. header.now) (drop l.header-index l.headers)) ≡ all_names (map (λ header. header.now) l.headers);
}
