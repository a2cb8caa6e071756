use Rattle.std.proofs.Common.{inl, inr, refl}
use Rattle.keyed_commands.proofs.commands.row_diff.check_columns.Goals as goal

pub returns-else-have_same_columns-clause-why : goal.returns-else-have_same_columns-clause-why
returns-else-have_same_columns-clause-why g c = (c.other_columns.ensures, inr (inl refl))
