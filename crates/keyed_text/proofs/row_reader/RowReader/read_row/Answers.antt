use Rattle.keyed_text.proofs.ReadLemmas.{gives-row}
use Rattle.keyed_text.proofs.row_reader.RowReader.read_row.Goals as goal

pub returns : goal.returns
returns g c =
    let e = c.in_ok-found.ensures in
    gives-row _ _ _ _ _ e.ready e.reads
