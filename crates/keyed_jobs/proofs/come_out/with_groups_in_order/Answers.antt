use Rattle.std.proofs.Common.{◌≡◌, [], append-nil, arith, rules, subst, sym}
use Rattle.std.proofs.lemmas.Grind.{common_steps}
use Rattle.keyed_jobs.specs.ComeOut.{AlikeByKey}
use Rattle.keyed_jobs.proofs.come_out.with_groups_in_order.Goals as goal

pub returns : goal.returns
returns g c =
    let none : c.loop-row.row-iterator.rest.items ≡ [] = first_of (search rules, grind (arith, common_steps)) in
    subst (AlikeByKey g.V.Grouped.alike c.args.rows.items) (append-nil c.loop-row.arranged.items)
    (c.loop-row.invariant [] (subst (λ l. AlikeByKey g.V.Grouped.alike l []) (sym none) tt))
