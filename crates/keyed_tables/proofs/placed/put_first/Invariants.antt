use Rattle.std.proofs.Common.{◌≡◌, ◌++◌, drop}
use Rattle.keyed_tables.specs.Placed.{new_first}
use Rattle.keyed_tables.proofs.ArrangeLemmas.{key_eq}
use Rattle.keyed_tables.proofs.placed.put_first.Given as goal

abbrev pub invariant-loop-key : goal.invariant-loop-key
invariant-loop-key l =
    l.keys.items ++ new_first key_eq l.ours.keys (drop l.key-index l.theirs) ≡ l.fn.keys.items ++ new_first key_eq l.fn.ours.keys l.fn.theirs
