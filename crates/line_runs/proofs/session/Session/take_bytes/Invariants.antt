use Rattle.std.proofs.Common.{◌≡◌, ℕ, List, ◌++◌, length}
use Rattle.line_runs.specs.Session.{Taken}
use Rattle.line_runs.proofs.session.Session.take_bytes.Given as goal

-- some bytes are done: with the rest they are all the bytes, and they are taken
abbrev pub invariant-loop-line : goal.invariant-loop-line
invariant-loop-line g l = (done : List ℕ) × (l.fn.bytes ≡ done ++ l.rest) × ((given written : List ℕ) → Taken g.N.Answerer.answers given written l.fn.self → Taken g.N.Answerer.answers (given ++ done) written l.self)

abbrev pub decreases-loop-line : goal.decreases-loop-line
decreases-loop-line g l = length l.rest
