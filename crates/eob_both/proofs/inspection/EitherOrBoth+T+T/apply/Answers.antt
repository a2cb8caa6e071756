use Rattle.std.proofs.Common.{rules}
use Rattle.eob_both.proofs.inspection.EitherOrBoth+T+T.apply.Goals as goal

pub f-requires-in-Both : goal.f-requires-in-Both
f-requires-in-Both g c = search rules

pub f-requires-in-Both-2 : goal.f-requires-in-Both-2
f-requires-in-Both-2 g c = search rules

pub returns-in-Both : goal.returns-in-Both
returns-in-Both g c = search rules
