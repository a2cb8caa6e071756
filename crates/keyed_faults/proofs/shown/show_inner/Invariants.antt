use Rattle.std.proofs.Common.{◌≡◌, ℕ, List, ◌++◌}
use Rattle.std.specs.Fmt.{IsPlainFormatter}
use Rattle.std.specs.Str.Chunks.{utf8_chunks_rest}
use Rattle.keyed_faults.specs.ShownCells.{HasShown}
use Rattle.keyed_faults.proofs.shown.show_inner.Given as goal

abbrev pub invariant-loop-chunk : goal.invariant-loop-chunk
invariant-loop-chunk g l = IsPlainFormatter l.fn.f
    → (done : List ℕ) × HasShown g.W.Write.write_str_gives l.fn.f done l.f × (done ++ utf8_chunks_rest l.chunk-iterator ≡ l.fn.bytes)
