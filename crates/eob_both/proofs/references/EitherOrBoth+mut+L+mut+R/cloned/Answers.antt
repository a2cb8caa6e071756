use Rattle.std.proofs.Common.{refl}
use Rattle.eob_both.proofs.references.EitherOrBoth+mut+L+mut+R.cloned.Goals as goal

-- on each arm the references end as they came
pub returns-in_err-clone-in-Left-clause-kept : goal.returns-in_err-clone-in-Left-clause-kept
returns-in_err-clone-in-Left-clause-kept g c = rw c.in-Left.is refl

pub returns-in_err-clone-in-Both-clause-kept : goal.returns-in_err-clone-in-Both-clause-kept
returns-in_err-clone-in-Both-clause-kept g c = rw c.in-Both.is refl

pub returns-in_err-clone-in-Both-2-clause-kept : goal.returns-in_err-clone-in-Both-2-clause-kept
returns-in_err-clone-in-Both-2-clause-kept g c = rw c.in-Both.is refl

pub returns-in_err-clone-in-Right-clause-kept : goal.returns-in_err-clone-in-Right-clause-kept
returns-in_err-clone-in-Right-clause-kept g c = rw c.in-Right.is refl

pub returns-in_ok-clone-in-Left-clause-kept : goal.returns-in_ok-clone-in-Left-clause-kept
returns-in_ok-clone-in-Left-clause-kept g c = rw c.in-Left.is refl

pub returns-in_ok-clone-in-Both-2-clause-kept : goal.returns-in_ok-clone-in-Both-2-clause-kept
returns-in_ok-clone-in-Both-2-clause-kept g c = rw c.in-Both.is refl

pub returns-in_ok-clone-in-Right-clause-kept : goal.returns-in_ok-clone-in-Right-clause-kept
returns-in_ok-clone-in-Right-clause-kept g c = rw c.in-Right.is refl
