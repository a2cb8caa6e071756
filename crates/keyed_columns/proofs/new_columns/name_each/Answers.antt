use Rattle.std.proofs.Common.{◌∙◌}
use Rattle.keyed_columns.proofs.ColumnLemmas.{has-each}
use Rattle.keyed_columns.proofs.new_columns.name_each.Goals as goal

pub returns : goal.returns
returns c = c.have_each-each.ensures ∙ has-each _ _ c.in_ok-named.ensures c.args.old.now
