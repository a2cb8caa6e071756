use Rattle.std.proofs.Common.{◌≡◌, ◌++◌, map}
use Rattle.keyed_columns.specs.ChangedColumns.{marked_between}
use Rattle.keyed_columns.specs.Names.{names_in}
use Rattle.keyed_columns.proofs.new_columns.marked_among.Given as goal

abbrev pub invariant-loop-name : goal.invariant-loop-name
invariant-loop-name l =
    l.marked ++ map (marked_between (names_in l.before) (names_in l.after)) l.name-iterator ≡ map (marked_between (names_in l.before) (names_in l.after)) l.names
