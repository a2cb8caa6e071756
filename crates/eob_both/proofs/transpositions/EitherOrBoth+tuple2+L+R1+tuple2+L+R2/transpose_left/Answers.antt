use Rattle.std.proofs.Common.{rules}
use Rattle.eob_both.proofs.transpositions.EitherOrBoth+tuple2+L+R1+tuple2+L+R2.transpose_left.Goals as goal

pub reduce-requires : goal.reduce-requires
reduce-requires g c = search rules

pub returns-clause-first : goal.returns-clause-first
returns-clause-first g c = search rules
