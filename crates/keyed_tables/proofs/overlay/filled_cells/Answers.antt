use Rattle.std.proofs.Common.{◌∙◌, ◌++◌, ap, append-nil, sym}
use Rattle.keyed_tables.proofs.OverlayLemmas.{no_pairs}
use Rattle.keyed_tables.proofs.overlay.filled_cells.Goals as goal

pub returns : goal.returns
returns c =
    sym (append-nil c.loop-cell.cells) ∙ ap (λ l. c.loop-cell.cells ++ l) (sym (no_pairs c.loop-cell.cell-iterator c.next.new.self c.next.result c.in-None.is c.next.ensures.steps))
    ∙ c.loop-cell.invariant
