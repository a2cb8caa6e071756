use Rattle.std.proofs.Common.{ℕ, ◌≡◌, List, []}
use Rattle.std.specs.Io.KnownBytes.{Appends, Consumes}
use Rattle.line_runs.specs.Session.{Taken}
use Rattle.line_runs.proofs.session.Session.answer_all.Given as goal

-- the bytes that were read are taken, and the answers to their lines are written
abbrev pub invariant-loop : goal.invariant-loop
invariant-loop g l = (given : List ℕ) × (written : List ℕ) × Consumes (g.R.Read.remaining l.initial.reader) (g.R.Read.remaining l.reader) given
    × Appends (g.W.Write.contents l.initial.writer) (g.W.Write.contents l.writer) written × Taken g.N.Answerer.answers given written l.self × (l.self.answers.unwritten.items ≡ [])
