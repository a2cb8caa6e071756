use Rattle.std.proofs.Common.{◌≡◌}
use Rattle.keyed_commands.specs.UnansweredLookup.{GoesOn}
use Rattle.keyed_commands.proofs.commands.lookup.write_json.Given as goal

abbrev pub invariant-loop : goal.invariant-loop
invariant-loop g l = GoesOn g.R.Read.remaining l.fn.left.source.value l.left.source.value × (l.left.file ≡ l.fn.left.file)
