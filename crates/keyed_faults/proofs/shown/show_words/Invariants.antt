use Rattle.std.proofs.Common.{◌≡◌, ℕ, List, ◌++◌}
use Rattle.std.specs.Fmt.{IsPlainFormatter}
use Rattle.std.specs.Str.Iter.{char_indices_rest}
use Rattle.keyed_faults.specs.ShownCells.{HasShown}
use Rattle.keyed_faults.proofs.shown.show_words.Given as goal

abbrev pub invariant-loop-at : goal.invariant-loop-at
invariant-loop-at g l = IsPlainFormatter l.fn.f
    → (done : List ℕ) × HasShown g.W.Write.write_str_gives l.fn.f done l.f × (done ++ char_indices_rest l.at-iterator ≡ l.fn.text)
