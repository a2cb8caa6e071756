use Rattle.std.proofs.Common.{subst, sym}
use Rattle.std.specs.Prelude.{IfErr}
use Rattle.std.proofs.lemmas.Result.{IfErr-weaker}
use Rattle.keyed_faults.specs.declared.fault.Reason.{Reason}
use Rattle.keyed_files.specs.Parts.{ExplainsPart}
use Rattle.keyed_files.proofs.parts.Parts.fill.Goals as goal

pub returns-clause-why : goal.returns-clause-why
returns-clause-why g c =
    let P : Reason → Type 0 = ExplainsPart g.R.Read.remaining c.args.self.now in
    IfErr-weaker c.at.result _ _ (λ fault same. subst P (sym same.2) (subst (λ outcome. IfErr outcome P) same.1 c.read_part.ensures.why)) c.at.ensures.why
