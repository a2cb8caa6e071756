use Rattle.keyed_files.proofs.WritingLemmas.{wrote-more}
use Rattle.keyed_jobs.specs.ChangeRows.{changes_heading, changes_rows}
use Rattle.keyed_jobs.proofs.changes.write_changes.Goals as goal

pub returns : goal.returns
returns c =
    let form = c.args.job.now.form in
    c.in_ok-text.ensures form _
    (wrote-more form _ _ (changes_heading form c.args.marked.now) (changes_rows c.args.job.now.columns.now.order.items c.args.changes.items) c.in_ok-written.ensures c.in_ok-put_changes.ensures)
