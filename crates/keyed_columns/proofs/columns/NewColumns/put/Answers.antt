use Rattle.std.proofs.Common.{◌∙◌, refl, sym}
use Rattle.keyed_columns.proofs.ColumnLemmas.{column-new, column-seen}
use Rattle.keyed_columns.proofs.columns.NewColumns.put.Goals as goal

pub returns-in_ok-put : goal.returns-in_ok-put
returns-in_ok-put c = λ key names h.
    column-new c.args.self.now _ c.args.name.now key names h c.in_ok-add.ensures.names (c.in_ok-add.ensures.behind c.if-branch.true) c.in_ok-put.ensures

pub returns-else-branch : goal.returns-else-branch
returns-else-branch c = λ key names h.
    column-seen c.args.self.now _ c.args.name.now key names h c.in_ok-add.ensures.names (sym c.in_ok-add.ensures.is_new ∙ c.if-branch.false) refl
