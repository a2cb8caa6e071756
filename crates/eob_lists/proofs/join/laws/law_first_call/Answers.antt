use Rattle.eob_lists.proofs.OuterJoinLemmas.{call_run}
use Rattle.eob_lists.proofs.join.laws.law_first_call.Goals as goal

pub returns : goal.returns
returns g c = λ r t h. (h, call_run g.I.Iterator.next_gives c.args._walk.now r t h)
