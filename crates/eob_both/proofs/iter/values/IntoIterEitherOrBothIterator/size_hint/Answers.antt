use Rattle.std.proofs.Common.{rules}
use Rattle.eob_both.proofs.iter.values.IntoIterEitherOrBothIterator.size_hint.Goals as goal

pub returns-clause-exact : goal.returns-clause-exact
returns-clause-exact g c = search rules
