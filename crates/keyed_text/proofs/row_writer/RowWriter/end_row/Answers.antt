use Rattle.keyed_text.proofs.WriteLemmas.{has-row}
use Rattle.keyed_text.proofs.row_writer.RowWriter.end_row.Goals as goal

pub returns : goal.returns
returns g c by there rows cells h =
    let e = c.in_ok-end_record.ensures in
    has-row _ by there rows cells _ _ h e.same e.fields e.wrote e.bytes
