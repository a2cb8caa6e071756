use Rattle.eob_lists.proofs.JoinLemmas.{join_counts}
use Rattle.eob_sums.proofs.laws.law_row_counts_of_join.Goals as goal

pub returns-clause-lefts : goal.returns-clause-lefts
returns-clause-lefts g c p q zs h i j = (join_counts g.K.Ord.cmp g.met.K.Ord.total g.row.A.Denot g.row.B.Denot p q zs h i j).0

pub returns-clause-rights : goal.returns-clause-rights
returns-clause-rights g c p q zs h i j = (join_counts g.K.Ord.cmp g.met.K.Ord.total g.row.A.Denot g.row.B.Denot p q zs h i j).1

pub returns-clause-both : goal.returns-clause-both
returns-clause-both g c p q zs h i j = (join_counts g.K.Ord.cmp g.met.K.Ord.total g.row.A.Denot g.row.B.Denot p q zs h i j).2
