use Rattle.std.proofs.Common.{[]}
use Rattle.command_callers.proofs.KnownText.{if-some}
use Rattle.command_callers.proofs.texts.rows_of.Goals as goal

pub returns : goal.returns
returns g c = if-some _ (λ text h. c.in_ok-rows.ensures _ _ text [] h) c.new-reader.ensures
