use Rattle.keyed_jobs.proofs.marks.Text.with_marked.Goals as goal

pub returns-in_ok-told-in-Unresolved : goal.returns-in_ok-told-in-Unresolved
returns-in_ok-told-in-Unresolved c = rw c.in-Unresolved.is (rw c.in_ok-told-in-Unresolved.ensures at c.with_versions.ensures)
