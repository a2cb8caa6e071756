use Rattle.std.proofs.Common.{◌≡◌, nat_eq}
use Rattle.std.specs.Cmp.Lexicographic.{pointwise}
use Rattle.indexmap.specs.IndexSet.{insert_all}
use Rattle.keyed_columns.specs.Names.{names_in}
use Rattle.keyed_columns.proofs.names.Names.add_all.Given as goal

abbrev pub invariant-loop-name : goal.invariant-loop-name
invariant-loop-name l = insert_all (pointwise nat_eq) (names_in l.self) l.name-iterator ≡ insert_all (pointwise nat_eq) (names_in l.fn.self) l.cells
