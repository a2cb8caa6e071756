use Rattle.std.proofs.Common.{◌∙◌, ap, map, nat_eq, sym}
use Rattle.std.specs.Prelude.{not}
use Rattle.std.specs.List.{list_any}
use Rattle.std.specs.Cmp.Lexicographic.{pointwise}
use Rattle.indexmap.specs.IndexSet.{insert_key}
use Rattle.keyed_columns.proofs.NameLemmas.{insert-map, insert-new, list_any-map}
use Rattle.keyed_columns.specs.Names.{names_in}
use Rattle.keyed_columns.proofs.names.Names.add.Goals as goal

pub returns-clause-names : goal.returns-clause-names
returns-clause-names c =
    let names = c.args.self.now.names.keys in
    let made = c.in_ok-from_slice.field-0 in
    ap (map (λ name. name.items)) c.in_ok-is_new.ensures.keys ∙ insert-map (λ name. name.items) (pointwise nat_eq) names made
    ∙ ap (insert_key (pointwise nat_eq) (map (λ name. name.items) names)) c.in_ok-from_slice.ensures.items

pub returns-clause-is_new : goal.returns-clause-is_new
returns-clause-is_new c =
    let names = c.args.self.now.names.keys in
    let made = c.in_ok-from_slice.field-0 in
    c.in_ok-is_new.ensures.added ∙ ap not (sym (list_any-map (λ name. name.items) (pointwise nat_eq made.items) names))
    ∙ ap (λ name. not (list_any (pointwise nat_eq name) (map (λ n. n.items) names))) c.in_ok-from_slice.ensures.items

pub returns-clause-behind : goal.returns-clause-behind
returns-clause-behind c = λ new.
    returns-clause-names c ∙ insert-new (pointwise nat_eq) (names_in c.args.self.now) c.args.name.now (sym (returns-clause-is_new c) ∙ new)
