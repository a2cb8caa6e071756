use Rattle.std.proofs.Common.{◌≡◌, ◌++◌, map}
use Rattle.keyed_columns.specs.Names.{names_in, renamed}
use Rattle.keyed_columns.proofs.header.Header.rename.Given as goal

abbrev pub invariant-loop-name : goal.invariant-loop-name
invariant-loop-name l =
    names_in l.found ++ map (renamed l.key.first l.key.others) l.name-iterator ≡ map (renamed l.key.first l.key.others) l.fn.self.names
