-- Three versions of an ordered map merged, by look-ups.
use Rattle.std.specs.Prelude.{◌≡◌, ◌<◌, Bool, false}
use Rattle.std.specs.BTreeMap.{BTreeMap, btree_map_len, get}
use Rattle.std.specs.declared.cmp.Ordering.{Ordering}
use Rattle.eob_joins.specs.Versions.{clash_place, is_conflict, merged_place, verdict}
use Rattle.eob_maps.specs.declared.merges.MergedMap.{MergedMap}
use Rattle.eob_maps.specs.declared.merges.MergedMap.TheVariants.{Whole, Conflicts}

-- the merged map, which has under each key the merged value of the three, none of which is in conflict; or the three values of each key
-- that is in conflict, of which there is one at least
abbrev pub IsMapMerge : {K V M : Type 0} → (K → K → Ordering) → (V → V → Bool) → BTreeMap K V → BTreeMap K V → BTreeMap K V
    → MergedMap K V M → Type 0
IsMapMerge {K} cmp eq base ours theirs (Whole rows) =
    ((k : K) → get cmp rows k ≡ merged_place eq (get cmp base k) (get cmp ours k) (get cmp theirs k))
    × ((k : K) → is_conflict (verdict eq (get cmp base k) (get cmp ours k) (get cmp theirs k)) ≡ false)
IsMapMerge {K} cmp eq base ours theirs (Conflicts rows) =
    ((k : K) → get cmp rows k ≡ clash_place eq (get cmp base k) (get cmp ours k) (get cmp theirs k))
    × (0 < btree_map_len rows)
