use Rattle.std.proofs.Common.{◌≡◌, map, take}
use Rattle.keyed_columns.proofs.names.Names.to_cells.Given as goal

abbrev pub invariant-loop-name : goal.invariant-loop-name
invariant-loop-name l = l.cells ≡ map (λ name. name.items) (take l.name-index l.self.names.keys)
