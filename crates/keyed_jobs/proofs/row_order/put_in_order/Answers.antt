use Rattle.std.proofs.Common.{◌≡◌, ◌∙◌, subst, sym}
use Rattle.std.specs.List.Sorted.{IsPermutation}
use Rattle.std.proofs.lemmas.List.Sorted.{IsPermutation-sym}
use Rattle.keyed_jobs.proofs.ComeLemmas.{some_back}
use Rattle.keyed_jobs.proofs.row_order.put_in_order.Goals as goal

pub returns-in-Some : goal.returns-in-Some
returns-in-Some c =
    let same : IsPermutation c.args.order.items c.args.group = rw (c.deref.ensures.value, c.rows.ensures) at (c.in_ok-are_sorted_as.ensures c.if-branch.true) in
    let is : c.args.order.items ≡ c.in-Some.made = some_back _ _ (sym c.in_ok-made.ensures ∙ c.in-Some.is) in
    subst (IsPermutation c.args.group) is (IsPermutation-sym _ _ same)
