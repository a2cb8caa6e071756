use Rattle.keyed_tables.specs.Laid.{filled}
use Rattle.keyed_tables.proofs.KeyLemmas.{key_cmp}
use Rattle.keyed_tables.proofs.OverlayLemmas.{laid_by, mapped_keys, mapped_rises}
use Rattle.keyed_tables.proofs.overlay.filled_over.Goals as goal

pub invariant_of-result : goal.invariant_of-result
invariant_of-result c = record { rises = mapped_rises key_cmp filled c.in_ok-joined.joined.items c.in_ok-pairs.pairs.items c.in_ok-pairs.ensures c.in_ok-joined.ensures.join.rises }

pub returns-clause-cells : goal.returns-clause-cells
returns-clause-cells c = laid_by key_cmp filled c.args.below.pairs.items c.args.above.pairs.items c.in_ok-joined.joined.items c.in_ok-pairs.pairs.items c.in_ok-pairs.ensures c.in_ok-joined.ensures.join

pub returns-clause-keys : goal.returns-clause-keys
returns-clause-keys c = (c.in_ok-joined.joined.items, c.in_ok-joined.ensures.join, mapped_keys key_cmp filled c.in_ok-joined.joined.items c.in_ok-pairs.pairs.items c.in_ok-pairs.ensures)
