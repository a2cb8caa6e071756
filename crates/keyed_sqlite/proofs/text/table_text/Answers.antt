use Rattle.keyed_sqlite.proofs.text.table_text.Goals as goal

pub returns : goal.returns
returns c = (_, c.in_ok-text.ensures)
