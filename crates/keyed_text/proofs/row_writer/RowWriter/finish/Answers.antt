use Rattle.keyed_text.proofs.WriteLemmas.{has-under}
use Rattle.keyed_text.proofs.row_writer.RowWriter.finish.Goals as goal

pub returns-in-Ok : goal.returns-in-Ok
returns-in-Ok g c by there rows h = has-under _ by there rows _ _ h c.in-Ok.ensures.ok
