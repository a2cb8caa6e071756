use Rattle.std.proofs.Common.{◌∙◌, sym}
use Rattle.keyed_files.proofs.WritingLemmas.{some-heading, then-end}
use Rattle.keyed_files.proofs.written.Written.put_join_heading.Goals as goal

pub returns : goal.returns
returns c =
    some-heading _ _ c.args.header.now (sym c.is_empty.ensures ∙ c.if-is_empty.false)
    (then-end _ _ _ c.args.header.now c.in_ok-put.ensures c.in_ok-end_row.ensures)
