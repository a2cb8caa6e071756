use Rattle.std.proofs.Common.{Some, ap, refl}
use Rattle.keyed_columns.proofs.KeyLemmas.{ends-equal, none-of}
use Rattle.keyed_columns.proofs.key_record.TwoNames.end.Goals as goal

pub returns : goal.returns
returns c = λ goes bytes h.
    ends-equal c.args.self.now (record c.args.self.now { other = Some c.new.result }) c.if-not-self.false (none-of _ _ c.is_some.ensures c.if-is_some.false) refl
    (ap Some c.new.ensures.items) bytes h
