use Rattle.std.proofs.Common.{◌∙◌, [], ap, map, nat_eq}
use Rattle.std.specs.Cmp.Lexicographic.{pointwise}
use Rattle.indexmap.specs.IndexSet.{insert_all}
use Rattle.keyed_columns.specs.ChangedColumns.{marked_between}
use Rattle.keyed_columns.specs.ColumnNames.{or_header}
use Rattle.keyed_columns.specs.Names.{names_in}
use Rattle.keyed_columns.specs.Placed.{names_placed}
use Rattle.keyed_columns.proofs.ColumnLemmas.{marked-same}
use Rattle.keyed_columns.proofs.new_columns.marked_columns.Goals as goal

pub returns : goal.returns
returns c =
    let old = c.args.old.now in
    let new = c.args.new.now in
    let before = c.in_ok-before.ensures ∙ ap (insert_all (pointwise nat_eq) []) c.or_header.ensures in
    let after = c.in_ok-after.ensures ∙ ap (insert_all (pointwise nat_eq) []) c.or_header-2.ensures in
    c.in_ok-marked.ensures ∙ ap (map (marked_between (names_in c.in_ok-before.before) (names_in c.in_ok-after.after))) c.in_ok-names.ensures
    ∙ marked-same _ _ (or_header old new) (or_header new old) before after (names_placed c.args.columns.now)
