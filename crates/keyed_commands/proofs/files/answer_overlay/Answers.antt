use Rattle.keyed_commands.proofs.files.answer_overlay.Goals as goal

pub returns : goal.returns
returns g c = (c.in_ok-tables.tables.items, c.in_ok-tables.ensures, c.in_ok-answer.ensures.answer)
