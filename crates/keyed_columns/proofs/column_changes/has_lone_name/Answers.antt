use Rattle.std.proofs.Common.{◌∙◌, ap, nat_eq, rules, sym, tests}
use Rattle.std.specs.Prelude.{not}
use Rattle.std.specs.Cmp.Lexicographic.{pointwise}
use Rattle.std.specs.List.{list_any}
use Rattle.std.proofs.lemmas.Iterator.Consumers.{YieldsList-from_first}
use Rattle.std.proofs.lemmas.Iterator.Search.{any_from_yields_List}
use Rattle.keyed_columns.specs.Names.{names_in}
use Rattle.keyed_columns.proofs.NameLemmas.{all_names, list_any_agree, none_at}
use Rattle.keyed_columns.proofs.column_changes.has_lone_name.Goals as goal

pub returns : goal.returns
returns c =
    let known = c.in_ok-others.others in
    any_from_yields_List (λ name. not (list_any (pointwise nat_eq name) (names_in known))) _ _ c.any.result c.any.ensures.ran
    (YieldsList-from_first (λ x. x.now) (λ cells. cells) c.args.names.now c.iter.ensures.rest) (λ x b q k. search (rules, tests))
    ∙ list_any_agree _ _ (λ name. ap not (ap (list_any (pointwise nat_eq name)) c.in_ok-others.ensures ∙ all_names name c.args.others.now) ∙ sym (none_at (pointwise nat_eq name) c.args.others.now)) c.args.names.now
