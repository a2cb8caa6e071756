use Rattle.std.proofs.Common.{◌≢◌}
use Rattle.csv.specs.Writing.{writer_setup}
use Rattle.csv.specs.declared.writer.QuoteStyle.TheVariants as style
use Rattle.keyed_text.proofs.WriteLemmas.{has-whole, none-written}
use Rattle.keyed_text.proofs.row_writer.RowWriter.put_row.Goals as goal

pub returns : goal.returns
returns g c by there rows h =
    let e = c.in_ok-write_byte_record.ensures in
    let plain : (writer_setup c.args.self.now.writer).style ≢ style.NonNumeric = rw h.setup h.quotes in
    let none = none-written _ by there rows _ h in
    has-whole _ by there rows _ _ _ h e.setup e.ended e.clean (e.bytes h.fields none plain)
