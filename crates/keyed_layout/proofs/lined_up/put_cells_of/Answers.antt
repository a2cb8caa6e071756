use Rattle.std.proofs.Common.{◌∙◌, ◌++◌, [], ◌∷◌, ap, append_assoc, sym}
use Rattle.keyed_layout.proofs.LineLemmas.{shown-then}
use Rattle.keyed_layout.proofs.lined_up.put_cells_of.Goals as goal

pub loop-cell-preserved : goal.loop-cell-preserved
loop-cell-preserved c =
    let was = c.loop-cell.invariant in
    let cell = c.in-Some.cell.now in (
      was.0 ++ (cell ∷ []),
      append_assoc was.0 (cell ∷ []) c.next.new.self ∙ ap (λ l. was.0 ++ l) (sym c.in-Some.ensures.steps) ∙ was.1,
      shown-then was.0 (cell ∷ []) c.args.line.now c.loop-cell.line c.put_cell.new.line was.2 c.in_ok-put_cell.ensures,
    )
