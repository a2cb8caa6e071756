use Rattle.std.proofs.Common.{◌≡◌, ◌++◌, ℕ, List}
use Rattle.keyed_layout.specs.Lines.{AppendsShown, picked_cells}
use Rattle.keyed_layout.proofs.LineLemmas.{still, with_flag}
use Rattle.keyed_layout.proofs.lined_up.put_picked.Given as goal

abbrev pub invariant-loop-cell : goal.invariant-loop-cell
invariant-loop-cell l = (taken : List (List ℕ)) × (taken ++ with_flag (still l.cell-iterator) ≡ picked_cells l.picked l.cells) × AppendsShown taken l.fn.line l.line
