use Rattle.std.proofs.Common.{◌∙◌, ◌++◌, ap, append-nil, map, sym}
use Rattle.keyed_tables.specs.Completed.{completed_cell}
use Rattle.keyed_tables.proofs.CompletedLemmas.{none-left}
use Rattle.keyed_tables.proofs.complete.completed_cells.Goals as goal

pub returns : goal.returns
returns c =
    sym (append-nil c.loop-is_missing.cells)
    ∙ ap (λ rest. c.loop-is_missing.cells ++ map (λ z. completed_cell z.0 z.1.0 z.1.1) rest)
    (sym (none-left c.loop-is_missing.is_missing-iterator c.next.new.self c.next.result c.in-None.is c.next.ensures.steps))
    ∙ c.loop-is_missing.invariant
