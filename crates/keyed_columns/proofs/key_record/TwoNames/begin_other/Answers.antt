use Rattle.std.proofs.Common.{◌∙◌, ◌∷◌, ◌++◌, [], ap, refl}
use Rattle.keyed_columns.proofs.KeyLemmas.{none-of, read-other}
use Rattle.keyed_columns.proofs.key_record.TwoNames.begin_other.Goals as goal

pub returns : goal.returns
returns c = λ goes bytes h.
    read-other c.args.self.now _ c.args.byte c.requires.waits c.requires.byte (none-of _ _ c.is_some.ensures c.if-is_some.false) refl c.push.new.self.items refl
    (c.in_ok-push.ensures.items ∙ ap (λ l. l ++ (c.args.byte ∷ [])) c.new-name.ensures.items) refl bytes h
