use Rattle.walk_lines.proofs.OnceLemmas.{said_answer}
use Rattle.walk_lines.proofs.laws.law_said_answer.Goals as goal

pub returns : goal.returns
returns g = said_answer
