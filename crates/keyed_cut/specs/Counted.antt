-- How many rows are counted of each part.
use Rattle.std.specs.Prelude.{◌≡◌, ◌==◌, ℕ, ◌+◌, ◌-◌, ◌^◌, List, [], ◌∷◌, ◌++◌, Option, Some, ⊤, count_by, length, map, min, slice_get, slice_set}
use Rattle.std.specs.declared.cmp.Ordering.{Ordering}
use Rattle.keyed_files.specs.Reading.{HasGiven, key_in}
use Rattle.keyed_files.specs.declared.source.Source.{Source}
use Rattle.keyed_parts.specs.Parts.{part_in}
use Rattle.keyed_text.specs.Texts.{AreRows}
use Rattle.keyed_cut.specs.Partitioned.{key_cmp}
use Rattle.keyed_cut.specs.declared.sinks.Count.{Count}
use Rattle.keyed_cut.specs.declared.sinks.Counts.{Counts}
use Rattle.keyed_cut.specs.declared.tables.Table.{Table}

-- of the part at a place one row more is counted, as far as a number counts, and all others are as they were
pub record CountsRowAt (i : ℕ) (old new : Counts) : Type 0 where
  pub count : Count
  pub more : (before : Count) → slice_get old.parts.items i ≡ Some before → count.rows ≡ min (before.rows + 1) (2 ^ 64 - 1)
  pub others : new.parts.items ≡ slice_set old.parts.items i count

-- of each part as many rows are counted as there are keys in it, as far as a number counts
pub record AreCounted {K : Type 0} (cmp : K → K → Ordering) (bounds keys : List K) (counts : Counts) : Type 0 where
  pub parts : length counts.parts.items ≡ length bounds + 1
  pub rows : (i : ℕ) (count : Count) → slice_get counts.parts.items i ≡ Some count
      → count.rows ≡ min (count_by (λ key. part_in cmp bounds key == i) keys) (2 ^ 64 - 1)

module _ {R : Type 0} (remaining : R → Option (List ℕ)) (bounds : List (List (List ℕ))) where
  -- a table is read on: of each text of which it had given some records, it gave more, and the keys of these are counted
  abbrev pub CountsOn : Table R → Source R → Counts → Type 0
  CountsOn table now counts = (d : ℕ) (c : Option ℕ) (text : List ℕ) (given : List (List (List ℕ)))
      → HasGiven d c remaining text given table.opened.source.value
      → (records : List (List (List ℕ))) × HasGiven d c remaining text (given ++ records) now
      × AreCounted key_cmp bounds (map (key_in table.places) records) counts

  -- a table is read to the end: after the records that it had given, these come, and no more, and their keys are counted
  abbrev pub CountsRest : Table R → Counts → Type 0
  CountsRest table counts = (d : ℕ) (c : Option ℕ) (text : List ℕ) (given : List (List (List ℕ)))
      → HasGiven d c remaining text given table.opened.source.value
      → (records : List (List (List ℕ))) × AreRows d c text (given ++ records)
      × AreCounted key_cmp bounds (map (key_in table.places) records) counts

  -- the same of each of some tables, by the same boundaries
  abbrev pub CountsEach : List (Table R) → List Counts → Type 0
  CountsEach [] [] = ⊤
  CountsEach [] (counts ∷ rest) = ⊥
  CountsEach (table ∷ tables) [] = ⊥
  CountsEach (table ∷ tables) (counts ∷ rest) = CountsRest table counts × CountsEach tables rest
