use Rattle.std.proofs.Common.{◌≡◌, ◌∙◌, ◌+◌, ◌∷◌, ap, drop, sym}
use Rattle.std.proofs.lemmas.List.{drop_all, drop_more}
use Rattle.keyed_files.proofs.WritingLemmas.{no-rows-left}
use Rattle.keyed_jobs.proofs.ChangeLemmas.{change-then}
use Rattle.keyed_commands.specs.RowDiff.{signed_row, signed_rows}
use Rattle.keyed_commands.proofs.commands.row_diff.put_parts.Goals as goal

pub loop-part-preserved : goal.loop-part-preserved
loop-part-preserved c end h =
    let parts = c.args.parts.now in
    let i = c.loop-part.part-index in
    let part = c.part-item.result in
    let at : drop i parts ≡ part ∷ drop (i + 1) parts = drop_more parts i part c.loop-part-test.true ∙ ap (λ first. first ∷ drop (i + 1) parts) (sym c.part-item.is) in
    c.loop-part.invariant end (change-then signed_row _ _ end (drop i parts) (drop (i + 1) parts) part at c.in_ok-put_part.ensures h)

pub returns : goal.returns
returns c = c.loop-part.invariant _ (no-rows-left _ _ (ap signed_rows (drop_all c.loop-part.part-index c.args.parts.now c.loop-part-test.false)))
