use Rattle.std.proofs.Common.{◌≡◌, ◌++◌, ℕ, List}
use Rattle.keyed_layout.specs.Lines.{AppendsShown}
use Rattle.keyed_layout.proofs.lined_up.put_cells_of.Given as goal

abbrev pub invariant-loop-cell : goal.invariant-loop-cell
invariant-loop-cell l = (taken : List (List ℕ)) × (taken ++ l.cell-iterator ≡ l.fn.cells) × AppendsShown taken l.fn.line l.line
