use Rattle.either_or_both.proofs.SplitLemmas.{result_counts}
use Rattle.either_or_both.proofs.laws.split.law_result_counts.Goals as goal

pub returns : goal.returns
returns g c = result_counts c.args._results.now
