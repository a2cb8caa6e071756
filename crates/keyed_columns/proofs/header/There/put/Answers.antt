use Rattle.std.proofs.Common.{◌≡◌, false, refl, true}
use Rattle.keyed_columns.specs.ColumnNames.{has_name}
use Rattle.keyed_columns.specs.Names.{names_in}
use Rattle.keyed_columns.proofs.KeyColumnLemmas.{again-told, is-false, is-true, new-told}
use Rattle.keyed_columns.proofs.header.There.put.Goals as goal

pub returns-in_ok-add-2 : goal.returns-in_ok-add-2
returns-in_ok-add-2 c = λ names told.
    let there : has_name (names_in c.args.self.now.each) c.args.name.now ≡ true = is-true _ _ c.in_ok-add.ensures.is_new c.if-not-branch.true in
    again-told names c.args.name.now c.args.self.now _ told c.in_ok-add.ensures.names c.in_ok-add-2.ensures.names there

pub returns-else-not-branch : goal.returns-else-not-branch
returns-else-not-branch c = λ names told.
    let fresh : has_name (names_in c.args.self.now.each) c.args.name.now ≡ false = is-false _ _ c.in_ok-add.ensures.is_new c.if-not-branch.false in
    new-told names c.args.name.now c.args.self.now _ told c.in_ok-add.ensures.names refl fresh
