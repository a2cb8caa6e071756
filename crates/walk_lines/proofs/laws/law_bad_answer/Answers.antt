use Rattle.walk_lines.proofs.OnceLemmas.{bad_answer}
use Rattle.walk_lines.proofs.laws.law_bad_answer.Goals as goal

pub returns : goal.returns
returns g = bad_answer
