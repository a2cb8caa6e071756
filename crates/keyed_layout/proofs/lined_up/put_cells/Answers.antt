use Rattle.std.proofs.Common.{◌≡◌, ◌+◌, ◌∙◌, ◌++◌, [], ◌∷◌, ap, map, string_bytes, subst, sym, take}
use Rattle.std.proofs.lemmas.List.{map_more}
use Rattle.keyed_layout.specs.Lines.{AreSpaced, IsSpaced, Puts}
use Rattle.keyed_layout.proofs.SpacedLemmas.{spaced-then}
use Rattle.keyed_layout.proofs.lined_up.put_cells.Goals as goal

pub loop-cell-preserved : goal.loop-cell-preserved
loop-cell-preserved c =
    let cells = c.deref-cell-items.result.now in
    let at = c.loop-cell.cell-index in
    let cell = c.cell-item.result in
    let first = string_bytes c.args.text.now in
    let was = string_bytes c.loop-cell.text in
    let put = string_bytes c.put_after.new.text in
    let here = map_more string_bytes cells at cell c.loop-cell-test.true ∙ ap (λ x. map string_bytes (take at cells) ++ string_bytes x ∷ []) (sym c.cell-item.is) in
    let more = subst (λ l. map string_bytes (take (at + 1) l) ≡ map string_bytes (take at l) ++ string_bytes cell ∷ []) c.deref-cell-items.ensures.value here in
    subst (λ l. Puts (AreSpaced l) first put) (sym more)
    (spaced-then (map string_bytes (take at c.args.line.now.cells.items)) (string_bytes cell) first was put c.loop-cell.invariant (subst (λ t. Puts (IsSpaced t) was put) c.deref.ensures c.in_ok-put_after.ensures))
