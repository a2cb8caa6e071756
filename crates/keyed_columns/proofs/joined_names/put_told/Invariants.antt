use Rattle.std.proofs.Common.{◌≡◌, ◌++◌, map}
use Rattle.keyed_columns.specs.JoinedNames.{told_apart}
use Rattle.keyed_columns.specs.Names.{names_in}
use Rattle.keyed_columns.proofs.joined_names.put_told.Given as goal

abbrev pub invariant-loop-name : goal.invariant-loop-name
invariant-loop-name l =
    l.header ++ map (told_apart l.word (names_in l.others)) l.name-iterator ≡ l.fn.header ++ map (told_apart l.word (names_in l.others)) l.names
