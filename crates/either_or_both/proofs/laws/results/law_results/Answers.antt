use Rattle.either_or_both.proofs.ResultLemmas.{errors, successes}
use Rattle.either_or_both.proofs.laws.results.law_results.Goals as goal

pub returns : goal.returns
returns g c = record { errors = errors c.args._results.now; successes = successes c.args._results.now }
