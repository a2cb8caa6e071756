use Rattle.std.proofs.Common.{◌∙◌, ◌++◌, ◌∷◌, [], ap, sym}
use Rattle.keyed_jobs.specs.Preferred.{row_by_side}
use Rattle.keyed_jobs.proofs.ByNumberLemmas.{kept-none, kept-some}
use Rattle.keyed_jobs.proofs.preferred.rows_by_side.Goals as goal

pub loop-key-preserved-in-Continue-branch-3 : goal.loop-key-preserved-in-Continue-branch-3
loop-key-preserved-in-Continue-branch-3 c =
    let g = row_by_side c.args.how.unit c.args.how.alikes.now c.args.side in
    c.in_ok-push-in-Some-2.ensures.items ∙ ap (λ l. l ++ (c.in-Some.key, c.in-Some-2.group) ∷ []) c.loop-key.invariant
    ∙ sym (kept-some g c.loop-key.yielded c.in-Some.key c.in-Some.row c.in-Some-2.group (sym c.in_ok-group.ensures ∙ c.in-Some-2.is))

pub loop-key-preserved-in-None-2 : goal.loop-key-preserved-in-None-2
loop-key-preserved-in-None-2 c =
    let g = row_by_side c.args.how.unit c.args.how.alikes.now c.args.side in
    c.loop-key.invariant ∙ sym (kept-none g c.loop-key.yielded c.in-Some.key c.in-Some.row (sym c.in_ok-group.ensures ∙ c.in-None-2.is))

pub loop-key-preserved : goal.loop-key-preserved
loop-key-preserved c =
    let g = row_by_side c.args.how.unit c.args.how.alikes.now c.args.side in
    c.loop-key.invariant ∙ sym (kept-none g c.loop-key.yielded c.in-Some.key c.in-Some.row (sym c.in_ok-group.ensures ∙ c.in-None-2.is))
