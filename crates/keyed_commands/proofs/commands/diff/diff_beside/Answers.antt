use Rattle.std.proofs.Common.{◌∙◌, ◌++◌, ap, length}
use Rattle.std.specs.Prelude.{◌==◌, ◌&&◌, not}
use Rattle.keyed_files.specs.Writing.{text_of}
use Rattle.keyed_jobs.specs.Answers.{columns_differ, status_of}
use Rattle.keyed_jobs.specs.ChangeRows.{changes_heading, changes_rows}
use Rattle.keyed_commands.proofs.commands.diff.diff_beside.Goals as goal

pub returns : goal.returns
returns c =
    let job = c.args.job.now in
    let same = c.in_ok-changes.ensures in (
      c.in_ok-all.all.items,
      c.in_ok-all.ensures.changes,
      c.in_ok-bytes.ensures ∙ ap (λ shown. text_of job.form (changes_heading job.form c.args.marked.now ++ changes_rows job.columns.now.order.items shown)) same,
      c.in_ok-status.ensures ∙ ap (λ shown. status_of ((length shown == 0) && not (columns_differ c.args.columns))) (c.deref.ensures.value ∙ same),
    )
