use Rattle.keyed_text.proofs.WriteLemmas.{has-none, quotes-by-style}
use Rattle.keyed_text.proofs.row_writer.RowWriter.in_style.Goals as goal

pub returns : goal.returns
returns g c =
    let from = c.from_writer.ensures in
    let setup = rw (
      c.terminator.ensures,
      c.terminator_of.ensures,
      c.quote_style-2.ensures,
      c.quote_style.ensures,
      c.comment.ensures,
      c.delimiter.ensures,
      c.new.ensures,
    ) at from.cfg in
    has-none g.W.Write.contents _ _ _ from.wtr from.empty setup (quotes-by-style c.args.style.quotes) from.fields from.wrote
