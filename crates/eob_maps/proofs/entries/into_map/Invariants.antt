use Rattle.std.proofs.Common.{◌≡◌, []}
use Rattle.eob_maps.proofs.EntryLemmas.{put_all}
use Rattle.eob_maps.proofs.entries.into_map.Given as goal

abbrev pub invariant-loop-row : goal.invariant-loop-row
invariant-loop-row g l = l.map.entries ≡ put_all g.K.Ord.cmp [] l.yielded
