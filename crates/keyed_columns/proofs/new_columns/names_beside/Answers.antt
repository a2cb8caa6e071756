use Rattle.std.proofs.Common.{◌∙◌, ◌++◌, [], ap, ap₂, false, nat_eq, sym}
use Rattle.std.specs.Cmp.Lexicographic.{pointwise}
use Rattle.indexmap.specs.IndexSet.{insert_all}
use Rattle.keyed_columns.proofs.ColumnLemmas.{inserted-append, kept-same}
use Rattle.keyed_columns.proofs.new_columns.names_beside.Goals as goal

pub returns : goal.returns
returns c =
    let old = c.args.old.now in
    let gone = c.args.gone.now in
    let both = c.in_ok-add_all.ensures ∙ ap (λ l. insert_all (pointwise nat_eq) l gone) c.in_ok-there.ensures ∙ sym (inserted-append old gone []) in
    c.in_ok-put_kept_names.ensures ∙ ap₂ (λ a b. a ++ b) c.in_ok-names.ensures (kept-same false _ _ both c.args.changes.now)
