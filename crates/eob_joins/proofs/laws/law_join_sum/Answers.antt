use Rattle.eob_joins.proofs.SumLemmas.{kept_sum_law, sum_law}
use Rattle.eob_joins.proofs.laws.law_join_sum.Goals as goal

pub returns-clause-rows : goal.returns-clause-rows
returns-clause-rows g c = sum_law g.K.Ord.cmp g.met.K.Ord.total

pub returns-clause-kept : goal.returns-clause-kept
returns-clause-kept g c = kept_sum_law g.K.Ord.cmp g.met.K.Ord.total
