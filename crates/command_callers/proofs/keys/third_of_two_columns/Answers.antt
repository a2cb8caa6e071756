use Rattle.std.proofs.lemmas.Result.{IfErr-weaker}
use Rattle.command_callers.proofs.KnownKeys.{err-if-not, no-third, tells-it}
use Rattle.command_callers.proofs.keys.third_of_two_columns.Goals as goal

pub returns-clause-refused : goal.returns-clause-refused
returns-clause-refused c = err-if-not c.check_key.result c.check_key.ensures.known (no-third _ _ _ _ c.in_ok-header.ensures.names c.in_ok-key.ensures)

pub returns-clause-told : goal.returns-clause-told
returns-clause-told c = IfErr-weaker c.check_key.result _ _ (λ told why. tells-it _ _ _ _ _ told c.in_ok-key.ensures why) c.check_key.ensures.why
