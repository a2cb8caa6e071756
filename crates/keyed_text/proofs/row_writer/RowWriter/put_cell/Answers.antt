use Rattle.std.proofs.Common.{◌≢◌}
use Rattle.csv.specs.Writing.{writer_setup}
use Rattle.csv.specs.declared.writer.QuoteStyle.TheVariants as style
use Rattle.keyed_text.proofs.WriteLemmas.{has-cell}
use Rattle.keyed_text.proofs.row_writer.RowWriter.put_cell.Goals as goal

pub returns : goal.returns
returns g c by there rows cells h =
    let e = c.in_ok-write_field.ensures in
    let plain : (writer_setup c.args.self.now.writer).style ≢ style.NonNumeric = rw h.setup h.quotes in
    has-cell _ by there rows cells _ _ _ h e.same e.count (λ w. e.wrote w plain) e.stays (e.text plain)
