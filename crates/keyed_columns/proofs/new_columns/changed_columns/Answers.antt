use Rattle.std.proofs.Common.{◌∷◌, [], subst}
use Rattle.keyed_columns.specs.ColumnNames.{WriteNames}
use Rattle.keyed_columns.proofs.new_columns.changed_columns.Goals as goal

pub returns : goal.returns
returns c =
    let headers = c.args.changes.now ∷ c.args.old.now ∷ c.args.gone.now ∷ [] in
    subst (λ names. WriteNames c.args.key names headers c.in_ok-columns.columns) c.in_ok-written.ensures c.in_ok-columns.ensures
