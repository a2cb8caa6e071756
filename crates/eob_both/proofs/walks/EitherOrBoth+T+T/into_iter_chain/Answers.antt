use Rattle.std.proofs.Common.{rules}
use Rattle.eob_both.proofs.RunLemmas.{chain_runs}
use Rattle.eob_both.proofs.walks.EitherOrBoth+T+T.into_iter_chain.Goals as goal

pub returns-in-Left-clause-runs : goal.returns-in-Left-clause-runs
returns-in-Left-clause-runs g c = chain_runs g.T.IntoIter.Iterator.next_gives g.T.IntoIterator.into_iter_gives c.args.self c.new.result (search rules) (search rules)

pub returns-in-Both-clause-runs : goal.returns-in-Both-clause-runs
returns-in-Both-clause-runs g c = chain_runs g.T.IntoIter.Iterator.next_gives g.T.IntoIterator.into_iter_gives c.args.self c.new-in-Both.result (search rules) (search rules)

pub returns-in-Right-clause-runs : goal.returns-in-Right-clause-runs
returns-in-Right-clause-runs g c = chain_runs g.T.IntoIter.Iterator.next_gives g.T.IntoIterator.into_iter_gives c.args.self c.new-in-Right.result (search rules) (search rules)
