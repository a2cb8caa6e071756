use Rattle.std.proofs.Common.{◌∙◌, ap, refl, sym, Some}
use Rattle.keyed_jobs.proofs.changes_made.missing_columns.Goals as goal

pub returns-then-each : goal.returns-then-each
returns-then-each c = rw (sym c.in_ok-each.ensures ∙ c.if-each.true) refl

pub returns-in_ok-missing : goal.returns-in_ok-missing
returns-in_ok-missing c = rw (sym c.in_ok-each.ensures ∙ c.if-each.false) (ap Some c.in_ok-missing.ensures)
