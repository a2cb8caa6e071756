use Rattle.std.proofs.Common.{refl}
use Rattle.std.proofs.lemmas.Result.{IfErr-weaker}
use Rattle.keyed_requests.specs.declared.request.SortedChanges.TheVariants.{Csv}
use Rattle.command_callers.proofs.NeverOpened.{sorted-unopened}
use Rattle.command_callers.proofs.unopened.unopened_new.Goals as goal

pub returns : goal.returns
returns c = IfErr-weaker c.diff_sorted.result _ _ (λ fault why. sorted-unopened _ _ Csv _ _ _ _ fault refl refl why) c.diff_sorted.ensures.why
