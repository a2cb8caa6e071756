use Rattle.keyed_commands.specs.SortedParts.{WritesLater}
use Rattle.keyed_commands.proofs.sorted.write_later.Given as goal

abbrev pub invariant-loop : goal.invariant-loop
invariant-loop g l =
    WritesLater g.R.Read.remaining l.work l.fn.tables l.tables (g.W.Write.contents l.fn.output) (g.W.Write.contents l.output) l.fn.first l.whole
