use Rattle.keyed_columns.proofs.ColumnLemmas.{name-then, no-name-left}
use Rattle.keyed_columns.proofs.columns.NewColumns.put_all.Goals as goal

pub loop-name-preserved : goal.loop-name-preserved
loop-name-preserved c end h = c.loop-name.invariant end (name-then _ _ _ _ _ _ c.in-Some.ensures.steps c.in_ok-put.ensures h)

pub returns : goal.returns
returns c = c.loop-name.invariant _ (no-name-left _ _ c.in-None.ensures.steps.0)
