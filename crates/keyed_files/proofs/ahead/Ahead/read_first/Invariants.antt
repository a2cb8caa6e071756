use Rattle.std.specs.Io.KnownBytes.{Keeps}
use Rattle.keyed_files.specs.Lines.{left_of}
use Rattle.keyed_files.proofs.ahead.Ahead.read_first.Given as goal

abbrev pub invariant-loop : goal.invariant-loop
invariant-loop g l = Keeps (left_of g.R.Read.remaining l.fn.self) (left_of g.R.Read.remaining l.self)
