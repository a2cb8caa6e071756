use Rattle.std.proofs.Common.{map, subst}
use Rattle.keyed_columns.specs.Keys.{AreColumnsBy}
use Rattle.keyed_commands.proofs.OverlayLemmas.{columns_spelled}
use Rattle.keyed_commands.proofs.commands.overlay.columns_of_all.Goals as goal

pub returns-clause-columns : goal.returns-clause-columns
returns-clause-columns g c =
    let key = c.args.settings.key in
    let columns = c.in_ok-columns.columns in
    columns_spelled key _ _ columns _ _ c.in_ok-spelled.ensures.same
    (subst (λ names. AreColumnsBy key names names columns) c.in_ok-headers.ensures
    (subst (λ headers. AreColumnsBy key (map (λ header. header.now) headers) (map (λ header. header.now) headers) columns) c.deref.ensures.value c.in_ok-columns.ensures.columns))
