use Rattle.std.proofs.Common.{◌∙◌, None, [], ap, subst, sym}
use Rattle.csv.specs.Records.{fields_of}
use Rattle.keyed_text.specs.Streams.{GivesRow, HasRead}
use Rattle.keyed_columns.specs.KeyText.{text_left}
use Rattle.keyed_columns.proofs.KeyLemmas.{names-read}
use Rattle.keyed_columns.proofs.key_record.key_names.Goals as goal

pub returns-clause-names : goal.returns-clause-names
returns-clause-names c =
    let text = c.args.text.now in
    let begun = subst (λ t. HasRead 44 None text_left t [] c.new-rows.result) (ap (λ bytes. bytes.now) c.new-strict.ensures ∙ c.as_bytes.ensures.value) c.new-rows.ensures in
    let reads = subst (λ found. GivesRow text_left c.new-rows.result c.read_key.new.rows found (fields_of c.read_key.new.row)) c.if-not-branch.false c.in_ok-read_key.ensures.found in
    let ends = subst (λ found. GivesRow text_left c.read_key.new.rows c.read_key-2.new.rows found (fields_of c.read_key-2.new.row)) c.if-branch.false c.in_ok-read_key-2.ensures.found in
    names-read text c.new-rows.result c.read_key.new.rows c.read_key-2.new.rows (fields_of c.read_key.new.row) (fields_of c.read_key-2.new.row) _ _ (sym c.is_empty.ensures ∙ c.if-is_empty.false) begun reads ends c.in_ok-names-2.ensures.names
