use Rattle.keyed_text.proofs.TextLemmas.{rows-full}
use Rattle.keyed_text.proofs.laws.law_rows_have_cells.Goals as goal

pub returns : goal.returns
returns c = rows-full
