use Rattle.std.proofs.Common.{◌∙◌, ap, nat_eq}
use Rattle.std.specs.Prelude.{is_some}
use Rattle.std.specs.Cmp.Lexicographic.{pointwise}
use Rattle.keyed_columns.proofs.NameLemmas.{some_at}
use Rattle.keyed_columns.proofs.columns.has_name.Goals as goal

pub returns : goal.returns
returns c = c.is_some.ensures ∙ ap is_some c.place_of.ensures ∙ some_at (pointwise nat_eq c.args.name.now) c.args.names.now
