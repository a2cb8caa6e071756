use Rattle.std.proofs.Common.{rules}
use Rattle.std.specs.Ordering.{is_lt}
use Rattle.std.proofs.lemmas.List.Sorted.{answers_always}
use Rattle.eob_lists.proofs.MergeLemmas.{rises_answer}
use Rattle.eob_lists.proofs.join.is_rising.Goals as goal

pub returns : goal.returns
returns g c =
    rises_answer g.K.Ord.cmp c.args.list.now c.is_sorted_by.result
    (c.is_sorted_by.ensures.cases (λ x y. is_lt (g.K.Ord.cmp x.0 y.0)) (answers_always _ _ _ (λ f a r f' h. search rules)))
