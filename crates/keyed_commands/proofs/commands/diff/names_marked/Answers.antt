use Rattle.std.proofs.Common.{inl, inr, refl}
use Rattle.keyed_commands.specs.Unanswered.{files_of}
use Rattle.keyed_commands.proofs.UnansweredLemmas.{apart-memory}
use Rattle.keyed_commands.proofs.commands.diff.names_marked.Goals as goal

pub returns-clause-why : goal.returns-clause-why
returns-clause-why g c = apart-memory c.at.result c.marked_columns-marked.result (files_of c.args.versions.now) c.args.versions.now.next.file (inr (inl refl)) c.at.ensures.file c.at.ensures.why
