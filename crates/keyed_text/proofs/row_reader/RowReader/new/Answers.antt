use Rattle.std.proofs.Common.{◌∙◌, inr}
use Rattle.keyed_text.proofs.ReadLemmas.{gave-none}
use Rattle.keyed_text.proofs.row_reader.RowReader.new.Goals as goal

pub returns : goal.returns
returns g c =
    let fr = c.from_reader.ensures in
    let i = c.flexible.ensures in
    let e = c.has_headers.ensures in
    let f = c.comment.ensures in
    let h = c.delimiter.ensures in
    gave-none _ _ _ _ _ fr.source (rw (i, e, f, h) at fr.trim ∙ c.new.ensures.trim) (rw (i, e, f, h, c.new.ensures.config) at fr.config) (inr (inr (rw (i, e) at fr.has_headers, fr.headers))) fr.state
