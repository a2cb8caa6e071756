use Rattle.std.proofs.Common.{refl}
use Rattle.eob_both.proofs.references.EitherOrBoth+mut+L+mut+R.copied.Goals as goal

-- on each arm the references end as they came
pub returns-in-Left-clause-kept : goal.returns-in-Left-clause-kept
returns-in-Left-clause-kept g c = rw c.in-Left.is refl

pub returns-in-Both-clause-kept : goal.returns-in-Both-clause-kept
returns-in-Both-clause-kept g c = rw c.in-Both.is refl

pub returns-in-Right-clause-kept : goal.returns-in-Right-clause-kept
returns-in-Right-clause-kept g c = rw c.in-Right.is refl
