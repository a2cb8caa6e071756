use Rattle.std.proofs.Common.{◌∙◌, ◌∷◌, [], sym}
use Rattle.std.specs.Prelude.{option_map}
use Rattle.keyed_files.specs.Rows.{names_row}
use Rattle.keyed_files.proofs.WritingLemmas.{heading-if, wrote-more}
use Rattle.keyed_files.proofs.written.begin_table.Goals as goal

pub returns-in_ok-put_heading : goal.returns-in_ok-put_heading
returns-in_ok-put_heading c =
    let row = names_row (option_map (λ cell. cell.now) c.args.first) c.args.columns.now in
    heading-if c.args.form _ row _ (sym c.has_heading.ensures ∙ c.if-has_heading.true)
    (wrote-more c.args.form _ _ [] (row ∷ []) c.new-written.ensures c.in_ok-put_heading.ensures)
