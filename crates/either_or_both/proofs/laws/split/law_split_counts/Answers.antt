use Rattle.either_or_both.proofs.SplitLemmas.{split_counts}
use Rattle.either_or_both.proofs.laws.split.law_split_counts.Goals as goal

pub returns : goal.returns
returns g c = split_counts c.args._values.now
