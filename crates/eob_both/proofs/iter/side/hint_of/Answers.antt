use Rattle.std.proofs.Common.{rules}
use Rattle.eob_both.proofs.iter.side.hint_of.Goals as goal

pub returns-in-None-clause-absent : goal.returns-in-None-clause-absent
returns-in-None-clause-absent g c = search rules
