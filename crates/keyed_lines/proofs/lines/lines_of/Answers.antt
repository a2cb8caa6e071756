use Rattle.std.proofs.Common.{◌∙◌, ◌+◌, ap, arith, refl, sym, take}
use Rattle.keyed_lines.specs.Lines.{joined}
use Rattle.keyed_lines.proofs.LineLemmas.{one_more}
use Rattle.keyed_lines.proofs.lines.lines_of.Goals as goal
use Rattle.keyed_lines.proofs.lines.lines_of.Goals.{then-text-place-eq10+in_ok-push, else-text-place-eq10}

pub loop-place-preserved : goal.loop-place-preserved
loop-place-preserved c =
    elim c.if-text-place-eq10.branch [
      | then-text-place-eq10+in_ok-push w ↦ (
        ap (λ v. joined v.items) w.lines-is ∙ ap joined w.in_ok-push.ensures.items
            ∙ one_more c.loop-place.lines.items _ c.args.text.now c.loop-place.begin (c.loop-place.place + 1) c.loop-place.invariant.0 refl (omega (arith, c.loop-place.invariant.1))
            ∙ ap (λ n. take n c.args.text.now) (sym w.begin-is),
        omega (arith, w.begin-is),
      )
      | else-text-place-eq10 w ↦ (
        ap (λ v. joined v.items) w.lines-is ∙ c.loop-place.invariant.0 ∙ ap (λ n. take n c.args.text.now) (sym w.begin-is),
        omega (arith, w.begin-is, c.loop-place.invariant.1),
      )
    ]
