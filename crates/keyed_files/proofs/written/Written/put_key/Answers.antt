use Rattle.keyed_files.proofs.WritingLemmas.{cell-then, none-left}
use Rattle.keyed_files.proofs.written.Written.put_key.Goals as goal

pub loop-cell-preserved : goal.loop-cell-preserved
loop-cell-preserved c end h = c.loop-cell.invariant end (cell-then _ _ _ _ _ _ c.in-Some.ensures.steps c.in_ok-put_cell.ensures h)

pub returns : goal.returns
returns c = c.loop-cell.invariant _ (none-left _ _ c.in-None.ensures.steps.0)
