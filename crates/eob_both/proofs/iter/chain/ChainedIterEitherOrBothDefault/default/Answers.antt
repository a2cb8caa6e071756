use Rattle.std.proofs.Common.{rules}
use Rattle.eob_both.proofs.iter.chain.ChainedIterEitherOrBothDefault.default.Goals as goal

pub returns : goal.returns
returns g c = search rules
