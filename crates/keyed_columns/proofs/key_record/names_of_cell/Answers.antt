use Rattle.std.proofs.Common.{subst}
use Rattle.std.proofs.lemmas.List.{take_all}
use Rattle.keyed_columns.specs.KeyText.{HasNames}
use Rattle.keyed_columns.proofs.key_record.names_of_cell.Goals as goal

pub returns-clause-names : goal.returns-clause-names
returns-clause-names c =
    let cell = c.args.cell.now in
    c.end.ensures c.if-not-end.false cell (subst (λ bytes. HasNames bytes c.loop-byte.names) (take_all c.loop-byte.byte-index cell c.loop-byte-test.false) c.loop-byte.invariant)
