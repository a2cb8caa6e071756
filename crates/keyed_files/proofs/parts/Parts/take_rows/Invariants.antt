use Rattle.keyed_files.specs.Parts.{Takes}
use Rattle.keyed_files.proofs.parts.Parts.take_rows.Given as goal

abbrev pub invariant-loop : goal.invariant-loop
invariant-loop g l = Takes l.bound l.fn.self l.self l.rows.items
