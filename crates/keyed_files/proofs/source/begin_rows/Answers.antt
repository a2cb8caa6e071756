use Rattle.keyed_files.proofs.ReadingLemmas.{begun-rows}
use Rattle.keyed_files.proofs.source.begin_rows.Goals as goal

pub returns-clause-begun : goal.returns-clause-begun
returns-clause-begun g c =
    begun-rows g.R.Read.remaining c.args.form _ _ _ c.in_ok-file.ensures.keeps
    (rw (c.in_ok-lines.ensures, c.marks_of-marks.ensures.delimiter, c.marks_of-marks.ensures.comment) at c.new-rows.ensures)
