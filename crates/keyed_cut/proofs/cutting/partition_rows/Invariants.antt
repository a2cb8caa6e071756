use Rattle.std.proofs.Common.{◌≡◌, ◌<◌, length}
use Rattle.keyed_cut.specs.Counted.{CountsOn}
use Rattle.keyed_cut.specs.Partitioned.{PartitionsOn}
use Rattle.keyed_cut.proofs.cutting.partition_rows.Given as goal

abbrev pub invariant-loop : goal.invariant-loop
invariant-loop g l = record {
  deals : PartitionsOn g.F.Read.remaining g.W.Write.contents l.bounds.keys.items l.fn.table.places l.fn.sinks.columns
      l.fn.table.opened.source.value l.table.opened.source.value l.fn.sinks.writers.items l.sinks.writers.items;
  counts : CountsOn g.F.Read.remaining l.bounds.keys.items l.fn.table l.table.opened.source.value l.sinks.counts;
  many : length l.bounds.keys.items < length l.sinks.writers.items;
  parts : length l.bounds.keys.items < length l.sinks.counts.parts.items;
  columns : l.sinks.columns ≡ l.fn.sinks.columns;
  places : l.table.places ≡ l.fn.table.places;
}
