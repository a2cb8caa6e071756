use Rattle.std.proofs.Common.{◌≡◌, []}
use Rattle.indexmap.specs.IndexSet.{insert_all}
use Rattle.keyed_tables.proofs.ArrangeLemmas.{key_eq}
use Rattle.keyed_tables.proofs.placed.set_of.Given as goal

abbrev pub invariant-loop-key : goal.invariant-loop-key
invariant-loop-key l = insert_all key_eq l.set.keys l.key-iterator.rest.items ≡ insert_all key_eq [] l.fn.keys.items
