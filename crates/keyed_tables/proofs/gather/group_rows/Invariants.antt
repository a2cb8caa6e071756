use Rattle.std.proofs.Common.{◌≡◌, ◌++◌, length, map}
use Rattle.eob_joins.specs.Groups.{key_runs}
use Rattle.keyed_tables.proofs.KeyLemmas.{key_cmp}
use Rattle.keyed_tables.proofs.gather.group_rows.Given as goal

abbrev pub invariant-groups : goal.invariant-groups
invariant-groups l =
    l.groups.items ++ key_runs key_cmp (map (λ row. (row.key, row.cells)) l.rows.items) ≡ key_runs key_cmp (map (λ row. (row.key, row.cells)) l.fn.rows.items)

abbrev pub decreases-groups : goal.decreases-groups
decreases-groups l = length l.rows.items
