use Rattle.std.proofs.lemmas.Result.{IfErr-weaker}
use Rattle.keyed_files.proofs.source.Source.read_record.Goals as goal

pub returns-in-Read-clause-gave : goal.returns-in-Read-clause-gave
returns-in-Read-clause-gave g c = IfErr-weaker c.read_next.result _ _ (λ reason gave. gave c.in-Read.is) c.read_next.ensures.gave
