use Rattle.std.proofs.Common.{inl, refl}
use Rattle.keyed_commands.specs.Unanswered.{files_of}
use Rattle.keyed_commands.proofs.UnansweredLemmas.{apart-at}
use Rattle.keyed_commands.proofs.commands.diff.columns_changed.Goals as goal

pub returns-in-Only-clause-columns : goal.returns-in-Only-clause-columns
returns-in-Only-clause-columns g c = rw c.in-Only.is (rw c.in-Only.is at c.columns_only.ensures.columns)

pub returns-in-All-clause-why : goal.returns-in-All-clause-why
returns-in-All-clause-why g c = apart-at c.change_columns.result (files_of c.args.versions.now) c.args.versions.now.first.file (inl refl) c.change_columns.ensures.file c.change_columns.ensures.why

pub returns-in-AllBut-clause-why : goal.returns-in-AllBut-clause-why
returns-in-AllBut-clause-why g c = apart-at c.change_columns-in-AllBut.result (files_of c.args.versions.now) c.args.versions.now.first.file (inl refl) c.change_columns-in-AllBut.ensures.file c.change_columns-in-AllBut.ensures.why
