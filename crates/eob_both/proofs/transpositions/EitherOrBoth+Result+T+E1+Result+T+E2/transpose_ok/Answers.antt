use Rattle.std.proofs.Common.{rules}
use Rattle.eob_both.proofs.transpositions.EitherOrBoth+Result+T+E1+Result+T+E2.transpose_ok.Goals as goal

pub returns-in-Ok-clause-ok : goal.returns-in-Ok-clause-ok
returns-in-Ok-clause-ok g c = search rules
