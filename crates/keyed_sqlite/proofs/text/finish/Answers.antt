use Rattle.keyed_sqlite.proofs.text.finish.Goals as goal

pub returns : goal.returns
returns c width t = (t.0, t.1, t.2, c.in_ok-text.ensures _ _ _ t.3)
