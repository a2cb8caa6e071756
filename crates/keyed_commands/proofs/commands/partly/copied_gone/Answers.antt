use Rattle.std.proofs.Common.{◌∷◌, [], inl, refl}
use Rattle.keyed_commands.proofs.UnansweredLemmas.{apart-memory}
use Rattle.keyed_commands.proofs.commands.partly.copied_gone.Goals as goal

pub returns-clause-why : goal.returns-clause-why
returns-clause-why g c = apart-memory c.at.result c.clone-gone.result (c.args.changes.now.file ∷ []) c.args.changes.now.file (inl refl) c.at.ensures.file c.at.ensures.why
