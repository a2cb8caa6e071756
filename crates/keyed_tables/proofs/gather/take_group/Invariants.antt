use Rattle.std.proofs.Common.{◌≡◌, ◌∷◌, ◌++◌, length, map}
use Rattle.eob_joins.specs.Groups.{run_rest, run_values}
use Rattle.keyed_tables.proofs.KeyLemmas.{key_cmp}
use Rattle.keyed_tables.proofs.gather.take_group.Given as goal

abbrev pub invariant-group : goal.invariant-group
invariant-group l = record {
  values : l.group ++ run_values key_cmp l.key (map (λ row. (row.key, row.cells)) l.rows.items)
      ≡ l.fn.first ∷ run_values key_cmp l.key (map (λ row. (row.key, row.cells)) l.initial.rows.items);
  rest : run_rest key_cmp l.key (map (λ row. (row.key, row.cells)) l.rows.items) ≡ run_rest key_cmp l.key (map (λ row. (row.key, row.cells)) l.initial.rows.items);
}

abbrev pub decreases-group : goal.decreases-group
decreases-group l = length l.rows.items
