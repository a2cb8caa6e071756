use Rattle.std.proofs.Common.{◌≡◌, ℕ, List}
use Rattle.std.specs.Prelude.{Option}
use Rattle.keyed_commands.specs.LookupAnswers.{WritesRest, found_under}
use Rattle.keyed_commands.specs.UnansweredLookup.{GoesOn}
use Rattle.keyed_commands.proofs.commands.lookup.write_parts.Given as goal

abbrev pub invariant-loop : goal.invariant-loop
invariant-loop g l = ((end : Option (List ℕ))
    → WritesRest g.R.Read.remaining l.work.form l.work.kind l.work.columns.now (found_under l.work.found.entries) l.places l.left.source.value l.written (g.W.Write.contents l.output) end
    → WritesRest g.R.Read.remaining l.work.form l.work.kind l.work.columns.now (found_under l.work.found.entries) l.places l.fn.left.source.value l.fn.written (g.W.Write.contents l.fn.output) end)
    × GoesOn g.R.Read.remaining l.fn.left.source.value l.left.source.value × (l.left.file ≡ l.fn.left.file)
