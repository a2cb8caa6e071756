use Rattle.std.proofs.Common.{◌≡◌, ◌++◌}
use Rattle.std.specs.Prelude.{option_map}
use Rattle.keyed_columns.specs.Placed.{first_cells}
use Rattle.keyed_columns.proofs.joined_names.names_of_both.Given as goal

abbrev pub invariant-loop-name : goal.invariant-loop-name
invariant-loop-name l = l.header ++ l.name-iterator ≡ first_cells (option_map (λ name. name.now) l.side) ++ l.columns.left.key
