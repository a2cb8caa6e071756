use Rattle.std.specs.HashMap.{IsUnique}
use Rattle.keyed_files.specs.Explained.{SameCount}
use Rattle.keyed_files.specs.Reading.{ReadsOn}
use Rattle.keyed_commands.specs.LookupAnswers.{held_rows, key_eq}
use Rattle.keyed_commands.proofs.commands.lookup.read_rest.Given as goal

abbrev pub invariant-loop : goal.invariant-loop
invariant-loop g l = ReadsOn g.R.Read.remaining l.places l.fn.source l.source (held_rows l.fn.found.entries) (held_rows l.found.entries)
    × (IsUnique key_eq l.fn.found → IsUnique key_eq l.found) × SameCount l.fn.source l.source
