use Rattle.std.proofs.Common.{◌∙◌, ◌++◌, [], List, None, ℕ, ap, subst}
use Rattle.std.specs.Prelude.{if◌then◌else◌}
use Rattle.keyed_text.specs.Spelling.{blank_lines}
use Rattle.keyed_text.specs.Texts.{finished}
use Rattle.keyed_requests.specs.FormBytes.{delimiter_of}
use Rattle.keyed_files.specs.Rows.{heading, table_rows}
use Rattle.keyed_files.specs.SpelledFiles.{PutsSpelled}
use Rattle.keyed_files.specs.Writing.{quoted_first}
use Rattle.keyed_files.proofs.SpelledLemmas.{then-rows}
use Rattle.keyed_files.proofs.spelled_table.write_each.Goals as goal

pub returns : goal.returns
returns c =
    let form = c.args.form in
    let columns = c.args.columns.now in
    let style = form.writing.style in
    let after = if style.has_end then blank_lines c.after.result.now else [] in
    let whole : PutsSpelled form [] c.put_table.new.text.items (heading form None columns ++ table_rows columns.order.items c.args.rows.items) =
    subst (λ (t : List ℕ). PutsSpelled form t c.put_table.new.text.items (heading form None columns ++ table_rows columns.order.items c.args.rows.items))
    c.new-text.ensures.items
    (then-rows form _ _ _ (heading form None columns) (table_rows columns.order.items c.args.rows.items) c.in_ok-put_heading.ensures c.in_ok-put_table.ensures) in (
      whole.0,
      c.after.result.now,
      whole.1,
      c.in_ok-file.ensures
          ∙ ap (finished style) (c.in_ok-given.ensures ∙ ap (quoted_first (delimiter_of form)) (c.in_ok-put_after.ensures ∙ ap (λ t. t ++ after) whole.2)),
    )
