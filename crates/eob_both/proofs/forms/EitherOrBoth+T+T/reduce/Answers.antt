use Rattle.std.proofs.Common.{rules}
use Rattle.eob_both.proofs.forms.EitherOrBoth+T+T.reduce.Goals as goal

pub f-requires : goal.f-requires
f-requires g c = search rules

pub returns-in-Both : goal.returns-in-Both
returns-in-Both g c = search rules
