use Rattle.std.proofs.Common.{◌≡◌, arith, map, rules, subst, sym}
use Rattle.std.specs.List.Sorted.{IsPermutation}
use Rattle.std.proofs.lemmas.Grind.{common_steps}
use Rattle.std.proofs.lemmas.List.Sorted.{IsPermutation-map}
use Rattle.keyed_jobs.proofs.row_order.are_sorted_as.Goals as goal

pub returns : goal.returns
returns c e =
    let whole : map (λ row. row.now) c.loop-row.sorted.items ≡ c.args.order.now = first_of (search rules, grind (arith, common_steps)) in
    let is : c.args.rows.now ≡ map (λ row. row.now) c.sort.new.self.items = rw c.deref.ensures.value at (c.are_same.ensures e) in
    let shuffled = IsPermutation-map (λ row. row.now) c.loop-row.sorted.items c.sort.new.self.items c.sort.ensures.permutation in
    subst (IsPermutation c.args.order.now) (sym is) (subst (λ l. IsPermutation l (map (λ row. row.now) c.sort.new.self.items)) whole shuffled)
