use Rattle.std.proofs.lemmas.Result.{IfOk-weaker}
use Rattle.either_or_both.proofs.RecollectLemmas.{walked_sides}
use Rattle.either_or_both.proofs.recollect.recollect_walked.Goals as goal

pub returns : goal.returns
returns g c =
    IfOk-weaker c.collect.result _ _
    (λ v h.
    let run = h (c.requires.whole v) in
    let sides = walked_sides g.C.IntoIterator.into_iter_gives g.D.IntoIterator.into_iter_gives g.C.IntoIter.Iterator.next_gives g.D.IntoIter.Iterator.next_gives g.C.Walked.contents g.D.Walked.contents g.C.Walked.is_held g.D.Walked.is_held
    (λ x s o. let w = g.met.C.Walked.walks x s o in (w.2, w.3)) (λ y t o. let w = g.met.D.Walked.walks y t o in (w.2, w.3)) g.C.Walked.holds_none g.D.Walked.holds_none
    c.args.pair c.into_iter_swap.result c.into_iter_swap.ensures.runs run.0 run.1 run.2 in
    (run.0.items, sides.0, sides.1, sides.2, sides.3, run.3))
    c.collect.ensures.runs
