use Rattle.std.proofs.Common.{◌∙◌, ◌++◌, ℕ, List, [], ◌∷◌, ap, append-nil, append_assoc, subst, sym}
use Rattle.keyed_layout.specs.Lines.{AppendsBoth}
use Rattle.keyed_layout.proofs.LineLemmas.{both-flag-set, both-then, both_with_flag, none-both-left, pair-then, still-both}
use Rattle.keyed_layout.proofs.lined_up.put_both.Goals as goal

pub loop-cell-preserved-in-Continue-1 : goal.loop-cell-preserved-in-Continue-1
loop-cell-preserved-in-Continue-1 c =
    let was = c.loop-cell.invariant in
    let cells : List ℕ × List ℕ = (c.in-Some.cell.now, c.in-Some.next.now) in
    let alike = c.in-Some.alike.now in
    let left = still-both c.next.new.self in
    let taken = pair-then c.loop-cell.cell-iterator c.next.new.self ((c.in-Some.cell, c.in-Some.next), (c.in-Some.alike, c.in-Some.is_picked)) c.in-Some.ensures.steps in (
      was.0 ++ ((alike, cells) ∷ []),
      append_assoc was.0 ((alike, cells) ∷ []) (both_with_flag left)
          ∙ ap (λ l. was.0 ++ l) (sym (both-flag-set cells alike c.in-Some.is_picked.now left c.if-is_picked.true) ∙ sym (ap both_with_flag taken)) ∙ was.1,
      both-then was.0 ((alike, cells) ∷ []) c.args.line.now c.loop-cell.line c.put_pair.new.line was.2 c.in_ok-put_pair.ensures,
    )

pub returns : goal.returns
returns c =
    let was = c.loop-cell.invariant in
    let none = none-both-left c.loop-cell.cell-iterator c.next.new.self c.next.result c.in-None.is c.next.ensures.steps in
    subst (λ l. AppendsBoth l c.args.line.now c.loop-cell.line) (sym (append-nil was.0) ∙ ap (λ l. was.0 ++ both_with_flag l) (sym none) ∙ was.1) was.2
