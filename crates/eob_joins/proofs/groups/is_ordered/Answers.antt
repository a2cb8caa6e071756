use Rattle.std.proofs.Common.{rules}
use Rattle.std.specs.Prelude.{not}
use Rattle.std.specs.Ordering.{is_lt}
use Rattle.std.proofs.lemmas.List.Sorted.{answers_always}
use Rattle.eob_joins.proofs.GroupLemmas.{ordered_answer}
use Rattle.eob_joins.proofs.groups.is_ordered.Goals as goal

pub returns : goal.returns
returns g c =
    ordered_answer g.K.Ord.cmp c.args.list.now c.is_sorted_by.result
    (c.is_sorted_by.ensures.cases (λ x y. not (is_lt (g.K.Ord.cmp y.0 x.0))) (answers_always _ _ _ (λ f a r f' h. search rules)))
