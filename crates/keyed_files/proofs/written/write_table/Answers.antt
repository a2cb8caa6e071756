use Rattle.std.proofs.Common.{◌∙◌, ap, None}
use Rattle.keyed_text.specs.Texts.{finished}
use Rattle.keyed_requests.specs.FormBytes.{delimiter_of}
use Rattle.keyed_files.specs.Rows.{heading, table_rows}
use Rattle.keyed_files.specs.Writing.{quoted_first}
use Rattle.keyed_files.proofs.WritingLemmas.{wrote-more}
use Rattle.keyed_files.proofs.written.write_table.Goals as goal

pub returns : goal.returns
returns c =
    let columns = c.args.columns.now in
    let wrote = wrote-more c.args.form _ _ (heading c.args.form None columns) (table_rows columns.order.items c.args.rows.items) c.in_ok-written.ensures c.in_ok-put_table.ensures in
    let given = c.in_ok-given.ensures ∙ ap (quoted_first (delimiter_of c.args.form)) (c.in_ok-text.ensures c.args.form _ wrote) in
    c.in_ok-file.ensures ∙ ap (finished c.args.form.writing.style) given
