use Rattle.keyed_laws.proofs.OneSideLemmas.{one-side-law}
use Rattle.keyed_laws.proofs.laws.law_one_side.Goals as goal

pub returns : goal.returns
returns c = one-side-law
