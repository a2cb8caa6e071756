use Rattle.std.proofs.Common.{rules}
use Rattle.either_or_both.proofs.EitherRunLemmas.{inner_made}
use Rattle.either_or_both.proofs.either.walks.Either+T+T.into_iter_inner.Goals as goal

pub returns-in-Left-clause-runs : goal.returns-in-Left-clause-runs
returns-in-Left-clause-runs g c = inner_made g.T.IntoIter.Iterator.next_gives g.T.IntoIterator.into_iter_gives c.args.self c.new.result (search rules) (search rules)

pub returns-in-Right-clause-runs : goal.returns-in-Right-clause-runs
returns-in-Right-clause-runs g c = inner_made g.T.IntoIter.Iterator.next_gives g.T.IntoIterator.into_iter_gives c.args.self c.new-in-Right.result (search rules) (search rules)
