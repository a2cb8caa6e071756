use Rattle.std.proofs.Common.{◌≡◌, ℕ, List, true}
use Rattle.std.specs.List.{list_all}
use Rattle.keyed_columns.specs.ColumnNames.{has_name}
use Rattle.keyed_columns.specs.KeyColumns.{is_one_column}
use Rattle.keyed_columns.proofs.header.Header.check_key.Given as goal

abbrev pub invariant-loop-name : goal.invariant-loop-name
invariant-loop-name l = record {
  known : list_all (is_one_column l.self.spelling.spelled l.self.names l.self.gone) l.name-iterator
      ≡ list_all (is_one_column l.self.spelling.spelled l.self.names l.self.gone) l.key;
  among : (name : List ℕ) → has_name l.name-iterator name ≡ true → has_name l.key name ≡ true;
}
