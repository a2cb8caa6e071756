use Rattle.std.proofs.Common.{refl}
use Rattle.keyed_columns.proofs.KeyLemmas.{names-new}
use Rattle.keyed_columns.proofs.key_record.TwoNames.new.Goals as goal

pub returns : goal.returns
returns c = names-new _ c.new.ensures.items refl refl
