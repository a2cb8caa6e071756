use Rattle.std.proofs.Common.{[]}
use Rattle.keyed_files.specs.Explained.{SameCount}
use Rattle.keyed_files.specs.Reading.{ReadsOn}
use Rattle.keyed_commands.specs.LookupAnswers.{as_rows}
use Rattle.keyed_commands.proofs.commands.lookup.read_part.Given as goal

abbrev pub invariant-loop : goal.invariant-loop
invariant-loop g l = ReadsOn g.R.Read.remaining l.places l.fn.source l.source [] (as_rows l.rows.items) × SameCount l.fn.source l.source
