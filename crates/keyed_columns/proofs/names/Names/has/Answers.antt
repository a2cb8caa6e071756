use Rattle.std.proofs.Common.{◌∙◌, nat_eq, sym}
use Rattle.std.specs.Cmp.Lexicographic.{pointwise}
use Rattle.keyed_columns.proofs.NameLemmas.{list_any-map}
use Rattle.keyed_columns.proofs.names.Names.has.Goals as goal

pub returns : goal.returns
returns c = c.contains.ensures ∙ sym (list_any-map (λ name. name.items) (pointwise nat_eq c.args.name.now) c.args.self.now.names.keys)
