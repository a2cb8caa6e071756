-- An ordered table as slices that have one key each.
use Rattle.std.specs.Prelude.{◌≡◌, ◌≤◌, true, List, length, ◌++◌, Option, Some, All, Contains, filter, flat_map, map}
use Rattle.std.specs.Borrow.{Bor}
use Rattle.std.specs.Iterator.Runs.{Run, AllItems}
use Rattle.std.specs.Map.{keys_of}
use Rattle.std.specs.Map.Iter.{deref_pair}
use Rattle.std.specs.Ordering.{is_eq}
use Rattle.std.specs.declared.cmp.Ordering.{Ordering}
use Rattle.eob_lists.specs.Join.{Rising, value_under}
use Rattle.eob_joins.specs.Groups.{key_runs, some_items}
use Rattle.eob_joins.specs.declared.group_refs.GroupRefs.{GroupRefs}

module _ {K V : Type 0} (cmp : K → K → Ordering) where
  -- the pairs that a table has under a key, in order, where there are some
  abbrev pub slice_under : List (K × V) → K → Option (List (K × V))
  slice_under xs k = some_items (filter (λ x. is_eq (cmp k x.0)) xs)

  -- the slices of neighbours with equal keys, each under its first key
  abbrev pub slices_of : List (K × V) → List (K × List (K × V))
  slices_of xs = key_runs cmp (map (λ x. (x.0, x)) xs)

  -- the slices that an iterator has still to return
  abbrev pub slices_left : GroupRefs K V → List (K × List (K × V))
  slices_left s = slices_of s.rest.now

  -- the keys of gs strictly increase, and are keys of xs; under each key gs has the pairs that xs has there; and one after the other they
  -- are xs
  pub record AreKeySlices (xs : List (K × V)) (gs : List (K × List (K × V))) : Type 0 where
    pub rises : Rising cmp gs
    pub values : (k : K) → value_under cmp gs k ≡ slice_under xs k
    pub keys : All (λ g. Contains (keys_of xs) g.0) gs
    pub whole : flat_map (λ g. g.1) gs ≡ xs

  -- what a run p of an iterator over slices returned: no more slices than the table has pairs, each with all pairs of its key; their
  -- keys strictly increase, and they begin the slices of the table; where p ended they are all of them
  pub record ShowsKeySlices {S : Type 0} {steps : S → Option (Bor K × Bor (List (K × V))) → S → Type 0}
      (xs : List (K × V)) (p : Run steps) : Type 0 where
    pub bound : p.len ≤ length xs
    pub slices : p.whole ≡ true → map deref_pair p.items ≡ slices_of xs
    pub rises : Rising cmp (map deref_pair p.items)
    pub places : AllItems p (λ g. slice_under xs g.0.now ≡ Some g.1.now)
    pub begins : (rest : List (K × List (K × V))) × (map deref_pair p.items ++ rest ≡ slices_of xs)
