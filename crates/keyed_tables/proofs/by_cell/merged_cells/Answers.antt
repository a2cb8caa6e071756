use Rattle.std.proofs.Common.{◌∙◌, ◌++◌, ap, append-nil, sym}
use Rattle.keyed_tables.proofs.CellRowLemmas.{none_left}
use Rattle.keyed_tables.proofs.by_cell.merged_cells.Goals as goal

pub returns : goal.returns
returns c =
    sym (append-nil c.loop-old.row) ∙ ap (λ l. c.loop-old.row ++ l) (sym (none_left c.loop-old.old-iterator c.next.new.self c.next.result c.in-None.is c.next.ensures.steps))
    ∙ c.loop-old.invariant
