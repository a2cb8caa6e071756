use Rattle.std.proofs.Common.{refl}
use Rattle.line_runs.proofs.SessionLemmas.{written_taken, retaken}
use Rattle.line_runs.proofs.session.Session.write_answers.Goals as goal

pub returns-clause-taken : goal.returns-clause-taken
returns-clause-taken g c given written t = retaken g.N.Answerer.answers _ _ _ _ _ _ _ _ _ (written_taken g.N.Answerer.answers _ _ _ _ _ _ t) refl c.clear.ensures.items refl
