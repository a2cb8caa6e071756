use Rattle.std.proofs.Common.{refl}
use Rattle.std.proofs.lemmas.Result.{IfErr-weaker}
use Rattle.command_callers.proofs.NeverOpened.{merge-unopened}
use Rattle.command_callers.proofs.unopened.unopened_theirs.Goals as goal

pub returns : goal.returns
returns c = IfErr-weaker c.merge.result _ _ (λ fault why. merge-unopened _ _ _ _ _ _ _ _ _ fault refl refl refl why) c.merge.ensures.why
