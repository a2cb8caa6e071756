use Rattle.std.proofs.Common.{refl}
use Rattle.line_runs.proofs.SessionLemmas.{none_taken, retaken}
use Rattle.line_runs.proofs.session.Session.new.Goals as goal

pub returns-clause-taken : goal.returns-clause-taken
returns-clause-taken g c = retaken g.N.Answerer.answers _ _ _ _ _ _ _ _ _ (none_taken g.N.Answerer.answers) c.new.ensures.items c.new-2.ensures.items refl
