use Rattle.std.proofs.Common.{◌∙◌, ◌+◌, cond, is_some, rules, tests}
use Rattle.std.specs.Option.{option_zip}
use Rattle.eob_both.specs.Places.{left_place, right_place}
use Rattle.callers.proofs.rows.count_shared_by_filter.Goals as goal

pub returns : goal.returns
returns g c =
    let p = c.count.ensures.runs in
    let q = c.filter.ensures.runs p.0 p.0.seen p.1 in
    let s = c.outer_join_slices.ensures.runs q.0 q.0.seen q.1 in
    p.3 ∙ q.2.5 (λ n x. n + cond (is_some (option_zip (left_place x.1) (right_place x.1))) 1 0) (λ x b h n e. search (rules, tests)) ∙ (s.counts (q.2.0 ∙ p.2)).2
