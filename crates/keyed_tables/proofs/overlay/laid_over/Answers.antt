use Rattle.eob_lists.specs.JoinLaws.{overlaid}
use Rattle.keyed_tables.proofs.OverlayLemmas.{laid_by, mapped_rises}
use Rattle.keyed_tables.proofs.overlay.laid_over.Goals as goal

pub invariant_of-result : goal.invariant_of-result
invariant_of-result g c = record { rises = mapped_rises g.K.Ord.cmp overlaid c.in_ok-joined.joined.items c.in_ok-pairs.pairs.items c.in_ok-pairs.ensures c.in_ok-joined.ensures.join.rises }

pub returns : goal.returns
returns g c = laid_by g.K.Ord.cmp overlaid c.args.below.pairs.items c.args.above.pairs.items c.in_ok-joined.joined.items c.in_ok-pairs.pairs.items c.in_ok-pairs.ensures c.in_ok-joined.ensures.join
