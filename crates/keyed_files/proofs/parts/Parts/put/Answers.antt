use Rattle.std.proofs.Common.{inl, refl}
use Rattle.keyed_faults.specs.declared.fault.Reason.TheVariants.{NoMemory}
use Rattle.keyed_files.proofs.ReadingLemmas.{same-err}
use Rattle.keyed_files.proofs.parts.Parts.put.Goals as goal

pub returns-in_err-clone-clause-why : goal.returns-in_err-clone-clause-why
returns-in_err-clone-clause-why g c = same-err c.from_residual.result NoMemory _ c.from_residual.ensures.1 (inl refl)

pub returns-in_err-push_back-clause-why : goal.returns-in_err-push_back-clause-why
returns-in_err-push_back-clause-why g c = same-err c.from_residual-in_err-push_back.result NoMemory _ c.from_residual-in_err-push_back.ensures.1 (inl refl)
