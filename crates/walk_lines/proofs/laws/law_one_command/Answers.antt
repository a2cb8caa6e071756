use Rattle.walk_lines.proofs.OnceLemmas.{one_command}
use Rattle.walk_lines.proofs.laws.law_one_command.Goals as goal

pub returns : goal.returns
returns g = one_command
