use Rattle.std.proofs.Common.{refl}
use Rattle.either_or_both.proofs.either.references.Either+mut+L+mut+R.copied.Goals as goal

-- on each arm the reference ends as it came
pub returns-in-Left-clause-kept : goal.returns-in-Left-clause-kept
returns-in-Left-clause-kept g c = rw c.in-Left.is refl

pub returns-in-Right-clause-kept : goal.returns-in-Right-clause-kept
returns-in-Right-clause-kept g c = rw c.in-Right.is refl
