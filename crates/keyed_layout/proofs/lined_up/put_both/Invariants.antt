use Rattle.std.proofs.Common.{◌≡◌, ◌++◌, ℕ, List}
use Rattle.keyed_layout.specs.Lines.{AppendsBoth, picked_pairs}
use Rattle.keyed_layout.proofs.LineLemmas.{both_with_flag, still-both}
use Rattle.keyed_numbers.specs.declared.alike.Alike.{Alike}
use Rattle.keyed_layout.proofs.lined_up.put_both.Given as goal

abbrev pub invariant-loop-cell : goal.invariant-loop-cell
invariant-loop-cell l = (taken : List (Alike × (List ℕ × List ℕ))) × (taken ++ both_with_flag (still-both l.cell-iterator) ≡ picked_pairs l.alikes l.picked l.old l.new)
    × AppendsBoth taken l.fn.line l.line
