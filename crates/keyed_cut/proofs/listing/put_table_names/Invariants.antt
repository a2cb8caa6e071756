use Rattle.std.proofs.Common.{drop}
use Rattle.std.specs.List.{flat_map}
use Rattle.keyed_files.specs.declared.written.Written.{Written}
use Rattle.keyed_files.specs.Writing.{PutsCells}
use Rattle.keyed_cut.specs.Listing.{table_names}
use Rattle.keyed_cut.proofs.listing.put_table_names.Given as goal

abbrev pub invariant-loop-stem : goal.invariant-loop-stem
invariant-loop-stem l =
    (end : Written) → PutsCells l.rows end (flat_map (λ stem. table_names stem.now) (drop l.stem-index l.stems))
    → PutsCells l.fn.rows end (flat_map (λ stem. table_names stem.now) l.stems)
