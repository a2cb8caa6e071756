use Rattle.keyed_files.specs.Parts.{Fills}
use Rattle.keyed_files.proofs.PartLemmas.{IsCounted}
use Rattle.keyed_files.proofs.parts.Parts.read_part.Given as goal

abbrev pub invariant-loop : goal.invariant-loop
invariant-loop g l = Fills g.R.Read.remaining l.fn.self l.self × IsCounted l.self l.counter
