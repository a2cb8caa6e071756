use Rattle.std.proofs.Common.{◌∷◌, [], subst, sym}
use Rattle.std.specs.Prelude.{IfOk}
use Rattle.std.proofs.lemmas.Result.{IfOk-weaker}
use Rattle.keyed_commands.specs.OverlayAnswers.{AreLaidOver}
use Rattle.keyed_commands.proofs.commands.overlay.laid_by.Goals as goal

pub returns-in-Rows : goal.returns-in-Rows
returns-in-Rows c =
    let below = c.args.below.pairs.items in
    let above = c.args.above.pairs.items in
    subst (λ layer. IfOk c.laid_over.result (λ laid. AreLaidOver layer below (above ∷ []) laid.pairs.items)) (sym c.in-Rows.is)
    (IfOk-weaker c.laid_over.result _ _ (λ laid values. record { rises = laid.rises; values = values }) c.laid_over.ensures)

pub returns-in-Cells : goal.returns-in-Cells
returns-in-Cells c =
    let below = c.args.below.pairs.items in
    let above = c.args.above.pairs.items in
    subst (λ layer. IfOk c.filled_over.result (λ laid. AreLaidOver layer below (above ∷ []) laid.pairs.items)) (sym c.in-Cells.is)
    (IfOk-weaker c.filled_over.result _ _ (λ laid values. record { rises = laid.rises; values = values }) c.filled_over.ensures.cells)
