use Rattle.std.proofs.Common.{◌∙◌, ◌++◌, ◌∷◌, [], ap, sym}
use Rattle.keyed_jobs.specs.ByNumber.{settled_mark}
use Rattle.keyed_jobs.proofs.ByNumberLemmas.{kept-none, kept-some}
use Rattle.keyed_jobs.proofs.by_number.settled_by_number.Goals as goal

pub loop-key-preserved-in-Continue-branch-3 : goal.loop-key-preserved-in-Continue-branch-3
loop-key-preserved-in-Continue-branch-3 c =
    let g = settled_mark c.args.alikes.now c.args.unit in
    c.in_ok-push-in-Some-2.ensures.items ∙ ap (λ l. l ++ (c.in-Some.key, c.in-Some-2.row) ∷ []) c.loop-key.invariant
    ∙ sym (kept-some g c.loop-key.yielded c.in-Some.key c.in-Some.mark c.in-Some-2.row (sym c.in_ok-row.ensures ∙ c.in-Some-2.is))

pub loop-key-preserved-in-None-2 : goal.loop-key-preserved-in-None-2
loop-key-preserved-in-None-2 c =
    let g = settled_mark c.args.alikes.now c.args.unit in
    c.loop-key.invariant ∙ sym (kept-none g c.loop-key.yielded c.in-Some.key c.in-Some.mark (sym c.in_ok-row.ensures ∙ c.in-None-2.is))

pub loop-key-preserved : goal.loop-key-preserved
loop-key-preserved c =
    let g = settled_mark c.args.alikes.now c.args.unit in
    c.loop-key.invariant ∙ sym (kept-none g c.loop-key.yielded c.in-Some.key c.in-Some.mark (sym c.in_ok-row.ensures ∙ c.in-None-2.is))
