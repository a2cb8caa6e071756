use Rattle.std.proofs.Common.{◌∙◌, ap, false, nat_eq, sym}
use Rattle.std.specs.Prelude.{is_none, not}
use Rattle.std.specs.Cmp.Lexicographic.{pointwise}
use Rattle.std.specs.List.{list_any}
use Rattle.std.proofs.lemmas.List.Elements.{filter_agree}
use Rattle.keyed_columns.specs.Names.{is_kept, names_in, place_in}
use Rattle.keyed_columns.proofs.NameLemmas.{all_names, none_at}
use Rattle.keyed_columns.proofs.column_changes.lone_names.Goals as goal

pub returns : goal.returns
returns c =
    c.in_ok-lone.ensures
    ∙ filter_agree (is_kept false (names_in c.in_ok-known.known)) (λ name. is_none (place_in c.args.others.now name))
    (λ name. ap not (ap (list_any (pointwise nat_eq name)) c.in_ok-known.ensures ∙ all_names name c.args.others.now) ∙ sym (none_at (pointwise nat_eq name) c.args.others.now))
    c.args.names.now
