use Rattle.std.proofs.Common.{◌∷◌, ◌∙◌, [], sym}
use Rattle.keyed_files.specs.Rows.{change_name}
use Rattle.keyed_files.proofs.WritingLemmas.{heading-if, wrote-more}
use Rattle.keyed_jobs.proofs.changes.begin_changes.Goals as goal

pub returns-in_ok-put_change_heading : goal.returns-in_ok-put_change_heading
returns-in_ok-put_change_heading c =
    let row = change_name ∷ c.args.marked.now in
    heading-if c.args.form _ row _ (sym c.writes_heading-has_heading.ensures ∙ c.if-has_heading.true) (wrote-more c.args.form _ _ [] (row ∷ []) c.new-written.ensures c.in_ok-put_change_heading.ensures)
