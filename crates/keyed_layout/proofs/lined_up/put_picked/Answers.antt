use Rattle.std.proofs.Common.{◌∙◌, ◌++◌, [], ◌∷◌, ap, append-nil, append_assoc, subst, sym}
use Rattle.keyed_layout.specs.Lines.{AppendsShown}
use Rattle.keyed_layout.proofs.LineLemmas.{cell-then, flag-set, none-left, shown-then, still, with_flag}
use Rattle.keyed_layout.proofs.lined_up.put_picked.Goals as goal

pub loop-cell-preserved-in-Continue-1 : goal.loop-cell-preserved-in-Continue-1
loop-cell-preserved-in-Continue-1 c =
    let was = c.loop-cell.invariant in
    let cell = c.in-Some.cell.now in
    let left = still c.next.new.self in
    let taken = cell-then c.loop-cell.cell-iterator c.next.new.self (c.in-Some.cell, c.in-Some.is_picked) c.in-Some.ensures.steps in (
      was.0 ++ (cell ∷ []),
      append_assoc was.0 (cell ∷ []) (with_flag left) ∙ ap (λ l. was.0 ++ l) (sym (flag-set cell c.in-Some.is_picked.now left c.if-is_picked.true) ∙ sym (ap with_flag taken)) ∙ was.1,
      shown-then was.0 (cell ∷ []) c.args.line.now c.loop-cell.line c.put_cell.new.line was.2 c.in_ok-put_cell.ensures,
    )

pub returns : goal.returns
returns c =
    let was = c.loop-cell.invariant in
    let none = none-left c.loop-cell.cell-iterator c.next.new.self c.next.result c.in-None.is c.next.ensures.steps in
    subst (λ l. AppendsShown l c.args.line.now c.loop-cell.line) (sym (append-nil was.0) ∙ ap (λ l. was.0 ++ with_flag l) (sym none) ∙ was.1) was.2
