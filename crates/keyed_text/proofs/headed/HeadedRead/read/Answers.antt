use Rattle.std.proofs.Common.{arith}
use Rattle.keyed_text.proofs.HeadLemmas.{head-given}
use Rattle.keyed_text.proofs.headed.HeadedRead.read.Goals as goal

pub returns-then-self-len-clause-bytes : goal.returns-then-self-len-clause-bytes
returns-then-self-len-clause-bytes g c = (
  head-given g.R.Read.remaining c.args.self.now c.copy_from-count.result _ (rw c.deref.ensures.value at c.copy_from-count.ensures.copied),
  λ none room. absurd (omega (arith, none, room, c.copy_from-count.ensures.some, c.copy_from-count.ensures.room)),
)
