use Rattle.eob_lists.proofs.JoinLemmas.{join_overlaid}
use Rattle.eob_lists.proofs.join.laws.law_join_overlaid.Goals as goal

pub returns : goal.returns
returns g c = λ p q h k. join_overlaid g.K.Ord.cmp p q c.args.joined.now h k
