-- What a merge of three lists has under each key, said of maps with these entries.
use Rattle.std.proofs.Common.{◌≡◌, ◌<◌, Bool, false, List, length}
use Rattle.std.specs.declared.cmp.Ordering.{Ordering}
use Rattle.std.specs.Prelude.{Vec}
use Rattle.eob_both.specs.declared.either_or_both.EitherOrBoth.{EitherOrBoth}
use Rattle.eob_lists.specs.Join.{value_under}
use Rattle.eob_joins.specs.declared.versions.Merged.TheVariants.{Whole, Conflicts}
use Rattle.eob_joins.specs.Versions.{IsMergeByKey, clash_place, is_conflict, merged_place, verdict}

module _ {K V M : Type 0} (cmp : K → K → Ordering) (eq : V → V → Bool) {b es p fs q gs : List (K × V)} where
  pub whole : (rows : Vec (K × V) M) {ms : List (K × V)} → b ≡ es → p ≡ fs → q ≡ gs → ms ≡ rows.items → IsMergeByKey cmp eq b p q (Whole rows)
      → ((k : K) → value_under cmp ms k ≡ merged_place eq (value_under cmp es k) (value_under cmp fs k) (value_under cmp gs k))
      × ((k : K) → is_conflict (verdict eq (value_under cmp es k) (value_under cmp fs k) (value_under cmp gs k)) ≡ false)
  whole rows e f g h m = rw (h, ← e, ← f, ← g) (m.0.values, m.1)

  pub conflicts : (rows : Vec (K × EitherOrBoth V (EitherOrBoth V V)) M) {ms : List (K × EitherOrBoth V (EitherOrBoth V V))} → b ≡ es → p ≡ fs → q ≡ gs → ms ≡ rows.items
      → IsMergeByKey cmp eq b p q (Conflicts rows)
      → ((k : K) → value_under cmp ms k ≡ clash_place eq (value_under cmp es k) (value_under cmp fs k) (value_under cmp gs k)) × (0 < length ms)
  conflicts rows e f g h m = rw (h, ← e, ← f, ← g) (m.0.values, m.1)
