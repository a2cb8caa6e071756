use Rattle.keyed_columns.proofs.KeyLemmas.{read-put, same-test}
use Rattle.keyed_columns.proofs.key_record.TwoNames.read.Goals as goal

pub returns-in_ok-put : goal.returns-in_ok-put
returns-in_ok-put c = λ goes.
    read-put c.args.self.now _ c.args.byte (same-test _ _ c.if-self-is_equal.true) c.in_ok-put.ensures.waits c.in_ok-put.ensures.read c.in_ok-put.ensures.begun
