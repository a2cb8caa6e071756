use Rattle.std.proofs.Common.{rules}
use Rattle.eob_both.proofs.transpositions.EitherOrBoth+Option+L+Option+R.transpose.Goals as goal

pub returns-in-None-r-clause-right : goal.returns-in-None-r-clause-right
returns-in-None-r-clause-right g c = search rules
