use Rattle.keyed_commands.proofs.files.write_overlay.Goals as goal

pub returns : goal.returns
returns g c = (c.in_ok-answer.answer, c.in_ok-answer.ensures, c.in_ok-status.ensures.text, c.in_ok-status.ensures.status)
