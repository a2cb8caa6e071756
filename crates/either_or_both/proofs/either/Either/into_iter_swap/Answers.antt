use Rattle.std.proofs.Common.{rules}
use Rattle.either_or_both.proofs.EitherRunLemmas.{swap_made}
use Rattle.either_or_both.proofs.either.Either.into_iter_swap.Goals as goal

pub returns-in-Left-clause-runs : goal.returns-in-Left-clause-runs
returns-in-Left-clause-runs g c = swap_made g.L.IntoIter.Iterator.next_gives g.R.IntoIter.Iterator.next_gives g.L.IntoIterator.into_iter_gives g.R.IntoIterator.into_iter_gives c.args.self c.new.result (search rules) (search rules)

pub returns-in-Right-clause-runs : goal.returns-in-Right-clause-runs
returns-in-Right-clause-runs g c = swap_made g.L.IntoIter.Iterator.next_gives g.R.IntoIter.Iterator.next_gives g.L.IntoIterator.into_iter_gives g.R.IntoIterator.into_iter_gives c.args.self c.new-in-Right.result (search rules) (search rules)
