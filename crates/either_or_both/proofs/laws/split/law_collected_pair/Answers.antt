use Rattle.eob_lists.proofs.PairLemmas.{left_held, left_or, right_held, right_or}
use Rattle.either_or_both.proofs.laws.split.law_collected_pair.Goals as goal

pub returns-clause-left : goal.returns-clause-left
returns-clause-left g c = left_held g.C.Walked.contents g.D.Walked.contents c.args._pair.now

pub returns-clause-right : goal.returns-clause-right
returns-clause-right g c = right_held g.C.Walked.contents g.D.Walked.contents c.args._pair.now

pub returns-clause-left_or : goal.returns-clause-left_or
returns-clause-left_or g c = left_or g.C.Walked.contents g.D.Walked.contents c.args._pair.now

pub returns-clause-right_or : goal.returns-clause-right_or
returns-clause-right_or g c = right_or g.C.Walked.contents g.D.Walked.contents c.args._pair.now
