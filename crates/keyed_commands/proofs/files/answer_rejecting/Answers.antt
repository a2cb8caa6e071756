use Rattle.std.proofs.Common.{refl}
use Rattle.keyed_commands.proofs.files.answer_rejecting.Goals as goal

pub returns : goal.returns
returns g c = (c.in_ok-partly.partly, c.in_ok-partly.ensures, refl)
