use Rattle.keyed_columns.proofs.ColumnLemmas.{once-none}
use Rattle.keyed_columns.proofs.key_record.NewNames.new.Goals as goal

pub returns-clause-once : goal.returns-clause-once
returns-clause-once c = once-none _ c.new.ensures c.new-2.ensures
