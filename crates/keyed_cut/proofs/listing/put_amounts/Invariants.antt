use Rattle.std.proofs.Common.{drop}
use Rattle.std.specs.List.{flat_map}
use Rattle.keyed_files.specs.declared.written.Written.{Written}
use Rattle.keyed_files.specs.Writing.{PutsCells}
use Rattle.keyed_cut.specs.Listing.{amounts_in}
use Rattle.keyed_cut.proofs.listing.put_amounts.Given as goal

abbrev pub invariant-loop-table : goal.invariant-loop-table
invariant-loop-table l =
    (end : Written) → PutsCells l.rows end (flat_map (amounts_in l.part) (drop l.table-index l.counts))
    → PutsCells l.fn.rows end (flat_map (amounts_in l.part) l.counts)
