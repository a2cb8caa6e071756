use Rattle.std.proofs.Common.{[]}
use Rattle.std.specs.Prelude.{None, Some}
use Rattle.keyed_text.specs.Texts.{writer_by}
use Rattle.command_callers.proofs.texts.known_text.Goals as goal

pub returns : goal.returns
returns c =
    let by = writer_by 59 None in
    let begun = rw c.new.ensures.items at c.new-writer.ensures in
    let first = c.in_ok-put_cell.ensures by (Some []) [] [] begun in
    let second = c.in_ok-put_cell-2.ensures by (Some []) [] _ first in
    c.in_ok-text.ensures by (Some []) _ (c.in_ok-end_row.ensures by (Some []) [] _ second)
