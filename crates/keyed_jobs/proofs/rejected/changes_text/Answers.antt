use Rattle.std.proofs.Common.{◌∙◌, ◌++◌, ap, ap₂}
use Rattle.keyed_files.specs.Writing.{text_of}
use Rattle.keyed_jobs.specs.ChangeRows.{changes_heading, changes_rows}
use Rattle.keyed_jobs.proofs.rejected.changes_text.Goals as goal

pub returns : goal.returns
returns c =
    let shown = c.in_ok-shown.shown.items in (
      shown,
      c.in_ok-columns.columns,
      c.in_ok-shown.ensures,
      c.in_ok-columns.ensures,
      c.in_ok-text.ensures
          ∙ ap₂ (λ form columns. text_of form (changes_heading form c.in_ok-marked.marked ++ changes_rows columns.order.items shown)) c.to_write.ensures.form c.to_write.ensures.columns
          ∙ ap (λ marked. text_of c.args.how.now.form (changes_heading c.args.how.now.form marked ++ changes_rows c.in_ok-columns.columns.order.items shown)) c.in_ok-marked.ensures,
    )
