use Rattle.std.proofs.Common.{refl}
use Rattle.std.proofs.lemmas.Result.{IfErr-weaker}
use Rattle.command_callers.proofs.NeverOpened.{lookup-unopened}
use Rattle.command_callers.proofs.unopened.unopened_right.Goals as goal

pub returns : goal.returns
returns c = IfErr-weaker c.lookup.result _ _ (λ fault why. lookup-unopened _ _ _ _ _ _ fault refl refl why) c.lookup.ensures.why
