use Rattle.std.proofs.Common.{[]}
use Rattle.std.specs.Map.Iter.{deref}
use Rattle.eob_both.proofs.AlignedLemmas.{aligned-map}
use Rattle.eob_both.proofs.laws.walks.law_aligned_refs.Goals as goal

pub returns-clause-both : goal.returns-clause-both
returns-clause-both g c = aligned-map deref deref

pub returns-clause-left : goal.returns-clause-left
returns-clause-left g c = λ p. aligned-map deref deref p []

pub returns-clause-right : goal.returns-clause-right
returns-clause-right g c = λ q. aligned-map deref deref [] q
