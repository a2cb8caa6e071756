use Rattle.either_or_both.proofs.EitherEndsLemmas.{held_swap_front}
use Rattle.either_or_both.proofs.laws.walks.law_held_swap_next.Goals as goal

pub returns : goal.returns
returns g c = λ s r t e v w zs h. held_swap_front g.L.Iterator.next_gives g.R.Iterator.next_gives v w zs s r t h e
