use Rattle.csv.specs.Records.{fields_of}
use Rattle.keyed_text.specs.Streams.{PutsCells}
use Rattle.keyed_cut.specs.Partitioned.{fitted}
use Rattle.keyed_cut.proofs.sinks.put_cells.Given as goal

abbrev pub invariant-loop-place : goal.invariant-loop-place
invariant-loop-place g l = PutsCells g.W.Write.contents l.fn.writer l.writer (fitted l.place (fields_of l.row))
