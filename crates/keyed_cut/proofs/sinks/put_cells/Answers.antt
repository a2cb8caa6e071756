use Rattle.std.proofs.Common.{◌≡◌, arith}
use Rattle.csv.specs.Records.{fields_of}
use Rattle.keyed_text.proofs.WriteLemmas.{cells-more, cells-none}
use Rattle.keyed_cut.specs.Partitioned.{fitted}
use Rattle.keyed_cut.proofs.SinkLemmas.{fitted-more}
use Rattle.keyed_cut.proofs.sinks.put_cells.Goals as goal

pub loop-place-init : goal.loop-place-init
loop-place-init g c = cells-none g.W.Write.contents _

pub loop-place-preserved : goal.loop-place-preserved
loop-place-preserved g c =
    let cells = fields_of c.args.row.now in
    rw (fitted-more c.loop-place.place cells)
    (cells-more g.W.Write.contents _ _ _ (fitted c.loop-place.place cells) _ c.loop-place.invariant (rw c.cell_of.ensures at c.in_ok-put_cell.ensures))

pub returns : goal.returns
returns g c =
    let all : c.loop-place.place ≡ c.args.count = omega arith in
    rw all at c.loop-place.invariant
