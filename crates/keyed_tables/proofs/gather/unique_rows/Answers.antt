use Rattle.std.proofs.Common.{◌≡◌, ◌∙◌, [], ◌∷◌, None, Some, map, rules, subst, sym, All, length}
use Rattle.std.proofs.lemmas.Simd.{map-map}
use Rattle.std.proofs.lemmas.List.Sorted.{IsPermutation-map, answers_always, ranks_by}
use Rattle.eob_lists.specs.Join.{Rising}
use Rattle.eob_joins.specs.Groups.{AreGroups}
use Rattle.keyed_tables.specs.Gathered.{alone}
use Rattle.keyed_tables.proofs.KeyLemmas.{key_cmp, keys_total, same_level}
use Rattle.keyed_tables.proofs.ClimbLemmas.{before}
use Rattle.keyed_tables.proofs.OrderLemmas.{each_single}
use Rattle.keyed_tables.proofs.RepeatLemmas.{repeat_of, repeated, repeated_alike, rows_rise}
use Rattle.keyed_tables.proofs.gather.unique_rows.Goals as goal

pub returns-in-Some-clause-repeated : goal.returns-in-Some-clause-repeated
returns-in-Some-clause-repeated c =
    let rows = c.sort_by.new.self.items in
    let row = c.in-Some.row.now in
    let next = c.in-Some.next.now in
    let clone = c.in_ok-clone.field-0 in
    let sorted = c.in_ok-sort_by.ensures.sorted (before (λ row. row.key) key_cmp) (ranks_by keys_total (λ row. row.key)) (answers_always _ _ _ (λ f a r f' h. search rules)) in
    let stable = c.in_ok-sort_by.ensures.stable (before (λ row. row.key) key_cmp) (ranks_by keys_total (λ row. row.key)) (answers_always _ _ _ (λ f a r f' h. search rules)) in
    let found : repeat_of (λ row. row.key) key_cmp keys_total rows ≡ Some (row, next) = search rules in
    repeated_alike (λ row. row.key) key_cmp keys_total (λ row. row.line) c.args.rows.items clone row.key row.line next.line
    (same_level clone row.key (search rules))
    (repeated (λ row. row.key) key_cmp keys_total (λ row. row.line) c.args.rows.items rows (row, next) sorted stable found)

pub invariant_of-result : goal.invariant_of-result
invariant_of-result c =
    let rows = c.sort_by.new.self.items in
    let sorted = c.in_ok-sort_by.ensures.sorted (before (λ row. row.key) key_cmp) (ranks_by keys_total (λ row. row.key)) (answers_always _ _ _ (λ f a r f' h. search rules)) in
    let none : repeat_of (λ row. row.key) key_cmp keys_total rows ≡ None = search rules in
    record { rises = subst (Rising key_cmp) (sym c.in_ok-pairs.ensures) (rows_rise (λ row. row.key) key_cmp keys_total (λ row. row.cells ∷ []) rows sorted none) }

pub returns-clause-rows : goal.returns-clause-rows
returns-clause-rows c =
    let rows = c.sort_by.new.self.items in
    let sorted = c.in_ok-sort_by.ensures.sorted (before (λ row. row.key) key_cmp) (ranks_by keys_total (λ row. row.key)) (answers_always _ _ _ (λ f a r f' h. search rules)) in
    let none : repeat_of (λ row. row.key) key_cmp keys_total rows ≡ None = search rules in
    let rises = rows_rise (λ row. row.key) key_cmp keys_total (λ row. row.cells ∷ []) rows sorted none in
    let keyed = map (λ row. (row.key, row.cells)) rows in
    let shown : c.in_ok-pairs.pairs.items ≡ map alone keyed = c.in_ok-pairs.ensures ∙ sym (map-map _ _ rows) in (
      keyed,
      IsPermutation-map (λ row. (row.key, row.cells)) c.args.rows.items rows c.in_ok-sort_by.ensures.permutation,
      subst (AreGroups _ _) (sym shown) (c.law_alone.ensures keyed (subst (Rising key_cmp) (sym (map-map _ _ rows)) rises)),
    )

pub returns-clause-unique : goal.returns-clause-unique
returns-clause-unique c =
    let rows = map (λ row. (row.key, row.cells)) c.sort_by.new.self.items in
    let shown : c.in_ok-pairs.pairs.items ≡ map alone rows = c.in_ok-pairs.ensures ∙ sym (map-map _ _ c.sort_by.new.self.items) in
    subst (All (λ group. length group.1 ≡ 1)) (sym shown) (each_single rows)
