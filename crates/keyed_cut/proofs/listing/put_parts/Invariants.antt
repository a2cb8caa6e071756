use Rattle.std.proofs.Common.{◌+◌, drop}
use Rattle.keyed_files.specs.declared.written.Written.{Written}
use Rattle.keyed_files.specs.Writing.{PutsRows}
use Rattle.keyed_cut.specs.Listing.{part_rows}
use Rattle.keyed_cut.proofs.listing.put_parts.Given as goal

abbrev pub invariant-loop-place : goal.invariant-loop-place
invariant-loop-place l =
    (end : Written) → PutsRows l.rows end (part_rows l.cells l.counts (l.place + 1) (drop l.place l.bounds))
    → PutsRows l.fn.rows end (part_rows l.cells l.counts 1 l.bounds)
