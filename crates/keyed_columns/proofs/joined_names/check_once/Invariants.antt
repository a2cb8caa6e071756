use Rattle.std.proofs.Common.{◌≡◌, ◌++◌, [], false}
use Rattle.keyed_columns.specs.Names.{names_in, repeats}
use Rattle.keyed_columns.proofs.joined_names.check_once.Given as goal

abbrev pub invariant-loop-name : goal.invariant-loop-name
invariant-loop-name l = record {
  all : names_in l.there ++ l.name-iterator ≡ l.names;
  once : repeats [] (names_in l.there) ≡ false;
}
