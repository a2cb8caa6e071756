use Rattle.std.proofs.Common.{refl}
use Rattle.std.proofs.lemmas.Result.{IfErr-weaker}
use Rattle.command_callers.proofs.NeverOpened.{diff-unopened}
use Rattle.command_callers.proofs.unopened.unopened_old.Goals as goal

pub returns : goal.returns
returns c = IfErr-weaker c.diff.result _ _ (λ fault why. diff-unopened _ _ _ _ _ _ fault refl why) c.diff.ensures.why
