use Rattle.keyed_cut.proofs.CountLemmas.{cut-all, cut-and, cut-none}
use Rattle.keyed_cut.proofs.cutting.cut_tables.Goals as goal

pub loop-table-init : goal.loop-table-init
loop-table-init g c =
    cut-none g.R.File.Read.remaining c.args.sampled.now.bounds.keys.items c.args.tables.items _ _ c.into_iter-table-iterator.ensures.into_iter_gives.0
    c.new-counts.ensures.items

pub loop-table-preserved : goal.loop-table-preserved
loop-table-preserved g c =
    cut-and g.R.File.Read.remaining c.args.sampled.now.bounds.keys.items c.args.tables.items c.next.new.self.rest.items c.in-Some.table
    c.loop-table.counts.items _ _ (rw c.in-Some.ensures.steps.0 at c.loop-table.invariant) c.in_ok-found.ensures c.in_ok-put.ensures
