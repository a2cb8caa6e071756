use Rattle.std.proofs.lemmas.List.{append-nil}
use Rattle.command_callers.proofs.KnownText.{rows-and}
use Rattle.command_callers.proofs.texts.rows_left.Goals as goal

pub loop-init : goal.loop-init
loop-init g c d m text before h = rw (c.new-rows.ensures.items, append-nil before) h

pub loop-preserved : goal.loop-preserved
loop-preserved g c d m text before h =
    rw (c.in_ok-push-in-Some.ensures.items, rows-and _ before _ _) (rw c.in-Some.is at (c.in_ok-row.ensures d m text _ (c.loop.invariant d m text before h)))

pub returns-in-None : goal.returns-in-None
returns-in-None g c d m text before h = rw c.in-None.is at (c.in_ok-row.ensures d m text _ (c.loop.invariant d m text before h))
