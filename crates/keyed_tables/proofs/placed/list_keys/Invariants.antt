use Rattle.std.proofs.Common.{◌≡◌, ◌++◌, ◌∷◌, drop}
use Rattle.std.specs.List.{flat_map}
use Rattle.keyed_tables.specs.Placed.{new_behind, placed}
use Rattle.keyed_tables.proofs.ArrangeLemmas.{key_eq}
use Rattle.keyed_tables.proofs.placed.list_keys.Given as goal

abbrev pub invariant-loop-key : goal.invariant-loop-key
invariant-loop-key l =
    l.keys.items ++ flat_map (λ k. k ∷ new_behind key_eq l.ours.keys l.theirs.keys k) (drop l.key-index l.ours.keys) ≡ placed key_eq l.ours.keys l.theirs.keys
