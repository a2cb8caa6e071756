use Rattle.keyed_cut.proofs.CountLemmas.{CutBefore}
use Rattle.keyed_cut.proofs.cutting.cut_tables.Given as goal

abbrev pub invariant-loop-table : goal.invariant-loop-table
invariant-loop-table g l = CutBefore g.R.File.Read.remaining l.fn.sampled.bounds.keys.items l.fn.tables.items l.table-iterator.rest.items l.counts.items
