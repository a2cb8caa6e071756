use Rattle.std.proofs.Common.{rules, ◌≡◌, [], length, vec_len}
use Rattle.std.specs.Prelude.{None, Some}
use Rattle.csv.specs.Records.{fields_of}
use Rattle.keyed_text.specs.Streams.{HasWritten}
use Rattle.keyed_text.specs.Texts.{writer_by}
use Rattle.keyed_sqlite.specs.Tables.{bytes_in}
use Rattle.keyed_sqlite.proofs.TableLemmas.{begin_with}
use Rattle.keyed_sqlite.proofs.text.begin.Goals as goal

pub returns : goal.returns
returns c =
    let none : HasWritten (writer_by 44 None) bytes_in (Some []) [] [] c.new-rows.result = rw (c.new.ensures.items) at c.new-rows.ensures in
    let is : length (fields_of c.loop-column.record) ≡ vec_len c.args.definition.now.columns = search rules in
    begin_with _ _ _ _ none c.in_ok-put_row.ensures is
