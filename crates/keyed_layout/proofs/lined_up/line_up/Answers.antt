use Rattle.std.proofs.Common.{◌∙◌, ◌++◌, [], ◌∷◌, ap, string_bytes, subst, sym, take}
use Rattle.std.proofs.lemmas.List.{take_more}
use Rattle.keyed_layout.specs.Lines.{AreLinedUp}
use Rattle.keyed_layout.proofs.SpacedLemmas.{lined-up-then}
use Rattle.keyed_layout.proofs.lined_up.line_up.Goals as goal

pub loop-line-preserved : goal.loop-line-preserved
loop-line-preserved c =
    let lines = c.args.grid.now in
    let at = c.loop-line.line-index in
    let line = c.line-item.result in
    let put = string_bytes c.put_line.new.text in
    let more = take_more lines at line c.loop-line-test.true ∙ ap (λ x. take at lines ++ x ∷ []) (sym c.line-item.is) in
    subst (λ l. AreLinedUp l put) (sym more)
    (lined-up-then (take at lines) line (string_bytes c.loop-line.text) put c.loop-line.invariant c.in_ok-put_line.ensures)
