use Rattle.csv.specs.Records.{fields_of}
use Rattle.keyed_text.proofs.WriteLemmas.{cells-row}
use Rattle.keyed_cut.specs.Partitioned.{fitted}
use Rattle.keyed_cut.proofs.SinkLemmas.{fitted-by}
use Rattle.keyed_cut.proofs.sinks.put_fitted.Goals as goal

pub returns-in_ok-put_row : goal.returns-in_ok-put_row
returns-in_ok-put_row g c =
    rw (fitted-by c.args.count (fields_of c.args.row.now) (c.has_count.ensures.0 c.if-has_count.true)) c.in_ok-put_row.ensures

pub returns-in_ok-end_row : goal.returns-in_ok-end_row
returns-in_ok-end_row g c =
    cells-row g.W.Write.contents _ _ _ (fitted c.args.count (fields_of c.args.row.now)) c.in_ok-put_cells.ensures c.in_ok-end_row.ensures
