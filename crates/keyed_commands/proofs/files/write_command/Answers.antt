use Rattle.keyed_commands.proofs.files.write_command.Goals as goal

pub returns-in_ok-status-in-Overlay : goal.returns-in_ok-status-in-Overlay
returns-in_ok-status-in-Overlay g c = rw c.in-Overlay.is (rw c.of-in-Overlay.ensures c.in_ok-status-in-Overlay.ensures)
