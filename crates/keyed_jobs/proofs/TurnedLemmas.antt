-- Changes that are turned about have the same keys.
use Rattle.std.specs.Prelude.{⊤}
use Rattle.eob_lists.specs.Join.{Rising}
use Rattle.eob_lists.specs.JoinLaws.{flipped}
use Rattle.eob_lists.proofs.JoinLemmas.{up_map}
use Rattle.eob_lists.proofs.MergeLemmas.{rising, up}
use Rattle.keyed_jobs.specs.Answers.{TableChanges, key_cmp}
use Rattle.keyed_jobs.specs.Turned.{turned}

pub turned-rises : (changes : TableChanges) → Rising key_cmp changes → Rising key_cmp (turned changes)
turned-rises changes rises = rising key_cmp (λ k. ⊤) (turned changes) (up_map key_cmp flipped (λ k. ⊤) changes (up key_cmp changes rises))
