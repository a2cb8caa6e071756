use Rattle.std.proofs.Common.{◌≡◌, ◌++◌, map}
use Rattle.eob_lists.specs.JoinLaws.{overlaid}
use Rattle.keyed_tables.proofs.overlay.upper_rows.Given as goal

abbrev pub invariant-loop-row : goal.invariant-loop-row
invariant-loop-row g l =
    l.rows.items ++ map (λ row. (row.0, overlaid row.1)) l.row-iterator.rest.items ≡ map (λ row. (row.0, overlaid row.1)) l.fn.joined.items
