use Rattle.keyed_columns.proofs.KeyColumnLemmas.{none-told}
use Rattle.keyed_columns.proofs.header.There.new.Goals as goal

pub returns : goal.returns
returns c = none-told _ c.new.ensures c.new-2.ensures
