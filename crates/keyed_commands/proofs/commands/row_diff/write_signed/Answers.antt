use Rattle.keyed_files.proofs.WritingLemmas.{wrote-more}
use Rattle.keyed_jobs.specs.ChangeRows.{changes_heading}
use Rattle.keyed_commands.specs.RowDiff.{signed_rows}
use Rattle.keyed_commands.proofs.commands.row_diff.write_signed.Goals as goal

pub returns : goal.returns
returns c =
    let form = c.args.job.form in
    c.in_ok-text.ensures form _
    (wrote-more form _ _ (changes_heading form c.args.job.marked.now) (signed_rows c.args.parts.now) c.in_ok-written.ensures c.in_ok-put_parts.ensures)
