use Rattle.std.proofs.Common.{None, refl}
use Rattle.keyed_files.specs.Rows.{heading}
use Rattle.keyed_jobs.proofs.marks.Text.begun.Goals as goal

pub returns : goal.returns
returns c = record { rows = heading c.args.job.now.form None c.args.job.now.columns.now; wrote = c.in_ok-written.ensures; are = rw c.new.ensures.items refl }
