use Rattle.std.proofs.Common.{subst, sym}
use Rattle.eob_lists.specs.Join.{Rising}
use Rattle.keyed_jobs.specs.Answers.{key_cmp}
use Rattle.keyed_jobs.proofs.TurnedLemmas.{turned-rises}
use Rattle.keyed_jobs.proofs.turned.turned.Goals as goal

pub invariant_of-result : goal.invariant_of-result
invariant_of-result c = record { rises = subst (Rising key_cmp) (sym c.in_ok-pairs.ensures) (turned-rises c.args.changes.pairs.items c.args.changes.rises) }
