use Rattle.std.proofs.Common.{[], ap, map}
use Rattle.keyed_files.proofs.WritingLemmas.{cell-then, none-left}
use Rattle.keyed_files.proofs.written.Written.put_absent.Goals as goal

pub loop-name-preserved : goal.loop-name-preserved
loop-name-preserved c end h = c.loop-name.invariant end (cell-then _ _ _ _ _ _ (ap (map (λ name. [])) c.in-Some.ensures.steps) c.in_ok-put_cell.ensures h)

pub returns : goal.returns
returns c = c.loop-name.invariant _ (none-left _ _ (ap (map (λ name. [])) c.in-None.ensures.steps.0))
