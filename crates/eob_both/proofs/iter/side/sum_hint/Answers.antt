use Rattle.std.proofs.Common.{rules}
use Rattle.eob_both.proofs.iter.side.sum_hint.Goals as goal

pub returns : goal.returns
returns c = search rules
