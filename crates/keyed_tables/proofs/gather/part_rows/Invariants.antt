use Rattle.std.proofs.Common.{◌≡◌, ◌++◌, map}
use Rattle.keyed_tables.specs.Gathered.{alone}
use Rattle.keyed_tables.proofs.gather.part_rows.Given as goal

abbrev pub invariant-loop-row : goal.invariant-loop-row
invariant-loop-row l =
    l.pairs.items ++ map (λ row. alone (row.key, row.cells)) l.row-iterator.rest.items ≡ map (λ row. alone (row.key, row.cells)) l.fn.rows.items
