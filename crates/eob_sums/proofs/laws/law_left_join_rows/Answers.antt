use Rattle.eob_sums.proofs.RowLemmas.{left_rows_alike, left_rows_same}
use Rattle.eob_sums.proofs.laws.law_left_join_rows.Goals as goal

pub returns-clause-alike : goal.returns-clause-alike
returns-clause-alike g c p q rows h j = left_rows_alike g.K.Ord.cmp g.met.K.Ord.total q p rows h j

pub returns-clause-same : goal.returns-clause-same
returns-clause-same g c exact p q rows h j = left_rows_same g.K.Ord.cmp g.met.K.Ord.total q exact.same p rows h j
