use Rattle.std.proofs.Common.{◌≡◌}
use Rattle.indexmap.specs.IndexMap.{insert_all}
use Rattle.eob_joins.specs.MapJoin.{lefts_of}
use Rattle.eob_joins.proofs.maps.put_lefts.Given as goal

abbrev pub invariant-loop-key : goal.invariant-loop-key
invariant-loop-key g l = l.rows.entries ≡ insert_all g.K.PartialEq.eq l.fn.rows.entries (lefts_of l.yielded)
