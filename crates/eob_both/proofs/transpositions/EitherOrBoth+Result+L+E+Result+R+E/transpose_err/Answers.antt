use Rattle.std.proofs.Common.{rules}
use Rattle.eob_both.proofs.transpositions.EitherOrBoth+Result+L+E+Result+R+E.transpose_err.Goals as goal

pub reduce-requires : goal.reduce-requires
reduce-requires g c = search rules

pub returns-in-Err-clause-err : goal.returns-in-Err-clause-err
returns-in-Err-clause-err g c = search rules
