use Rattle.keyed_columns.proofs.KeyColumnLemmas.{ended-zip, none-of-two}
use Rattle.keyed_columns.proofs.header.renamed_of.Goals as goal

pub returns : goal.returns
returns c =
    let first = c.loop-first.first-iterator.a in
    let others = c.loop-first.first-iterator.b in
    none-of-two c.loop-first.names first others _ c.loop-first.invariant (ended-zip first others c.in-None.ensures.steps)
