use Rattle.std.proofs.Common.{◌∙◌, [], ap, nat_eq, sym, true}
use Rattle.std.specs.Cmp.Lexicographic.{pointwise}
use Rattle.indexmap.specs.IndexSet.{insert_all}
use Rattle.keyed_columns.proofs.ColumnLemmas.{inserted-append, kept-same}
use Rattle.keyed_columns.proofs.columns.names_among.Goals as goal

pub returns : goal.returns
returns c =
    let columns = c.args.columns.now in
    let all = c.in_ok-add_all.ensures ∙ ap (λ l. insert_all (pointwise nat_eq) l columns.rest) c.in_ok-there.ensures ∙ sym (inserted-append columns.key columns.rest []) in
    c.in_ok-names.ensures ∙ kept-same true _ _ all c.args.header.now
