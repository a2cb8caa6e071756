use Rattle.std.proofs.Common.{◌≡◌, ◌++◌, filter}
use Rattle.keyed_columns.specs.ChangedColumns.{stays_in}
use Rattle.keyed_columns.specs.Names.{names_in}
use Rattle.keyed_columns.proofs.new_columns.put_kept.Given as goal

abbrev pub invariant-loop-name : goal.invariant-loop-name
invariant-loop-name l =
    l.names ++ filter (stays_in (names_in l.before) (names_in l.beside)) l.name-iterator ≡ l.fn.names ++ filter (stays_in (names_in l.before) (names_in l.beside)) l.header
