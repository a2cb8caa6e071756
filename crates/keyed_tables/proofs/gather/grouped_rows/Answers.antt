use Rattle.std.proofs.Common.{map, rules}
use Rattle.std.proofs.lemmas.List.Sorted.{IsPermutation-map, answers_always, ranks_by}
use Rattle.keyed_tables.proofs.ClimbLemmas.{before}
use Rattle.keyed_tables.proofs.KeyLemmas.{key_cmp, keys_total}
use Rattle.keyed_tables.proofs.OrderLemmas.{are_groups, groups_in_order, in_turn, in_turn_total}
use Rattle.keyed_tables.proofs.gather.grouped_rows.Goals as goal

pub invariant_of-result : goal.invariant_of-result
invariant_of-result c =
    let sorted = c.in_ok-sort_by.ensures.sorted (before (λ row. (row.key, row.cells)) (in_turn key_cmp key_cmp keys_total keys_total))
    (ranks_by (in_turn_total key_cmp key_cmp keys_total keys_total) (λ row. (row.key, row.cells))) (answers_always _ _ _ (λ f a r f' h. search rules)) in
    record { rises = (are_groups key_cmp key_cmp keys_total keys_total (λ row. (row.key, row.cells)) c.sort_by.new.self.items _ sorted c.in_ok-pairs.ensures).rises }

pub returns-clause-rows : goal.returns-clause-rows
returns-clause-rows c =
    let rows = c.sort_by.new.self.items in
    let sorted = c.in_ok-sort_by.ensures.sorted (before (λ row. (row.key, row.cells)) (in_turn key_cmp key_cmp keys_total keys_total))
    (ranks_by (in_turn_total key_cmp key_cmp keys_total keys_total) (λ row. (row.key, row.cells))) (answers_always _ _ _ (λ f a r f' h. search rules)) in (
      map (λ row. (row.key, row.cells)) rows,
      IsPermutation-map (λ row. (row.key, row.cells)) c.args.rows.items rows c.in_ok-sort_by.ensures.permutation,
      are_groups key_cmp key_cmp keys_total keys_total (λ row. (row.key, row.cells)) rows _ sorted c.in_ok-pairs.ensures,
    )

pub returns-clause-order : goal.returns-clause-order
returns-clause-order c =
    let rows = c.sort_by.new.self.items in
    let sorted = c.in_ok-sort_by.ensures.sorted (before (λ row. (row.key, row.cells)) (in_turn key_cmp key_cmp keys_total keys_total))
    (ranks_by (in_turn_total key_cmp key_cmp keys_total keys_total) (λ row. (row.key, row.cells))) (answers_always _ _ _ (λ f a r f' h. search rules)) in
    groups_in_order key_cmp key_cmp keys_total keys_total (λ row. (row.key, row.cells)) rows _ sorted
    (are_groups key_cmp key_cmp keys_total keys_total (λ row. (row.key, row.cells)) rows _ sorted c.in_ok-pairs.ensures)
