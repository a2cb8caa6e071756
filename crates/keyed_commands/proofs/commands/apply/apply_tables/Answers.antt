use Rattle.keyed_jobs.proofs.ComeLemmas.{told_false, told_true}
use Rattle.keyed_commands.proofs.commands.apply.apply_tables.Goals as goal

pub returns-clause-fits : goal.returns-clause-fits
returns-clause-fits c = told_true c.all_fit-fit.result _ _ _ c.all_fit-fit.ensures c.in_ok-answer.ensures

pub returns-clause-misfits : goal.returns-clause-misfits
returns-clause-misfits c = told_false c.all_fit-fit.result _ _ _ c.all_fit-fit.ensures c.in_ok-answer.ensures
