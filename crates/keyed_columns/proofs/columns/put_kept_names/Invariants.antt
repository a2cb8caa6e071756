use Rattle.std.proofs.Common.{◌≡◌, ◌++◌, filter}
use Rattle.keyed_columns.specs.Names.{is_kept, names_in}
use Rattle.keyed_columns.proofs.columns.put_kept_names.Given as goal

abbrev pub invariant-loop-name : goal.invariant-loop-name
invariant-loop-name l =
    l.kept ++ filter (is_kept l.keeps (names_in l.names)) l.name-iterator ≡ l.fn.kept ++ filter (is_kept l.keeps (names_in l.names)) l.header
