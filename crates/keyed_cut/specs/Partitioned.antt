-- Rows put after those of their parts, and as many cells of a row as there are columns.
use Rattle.std.specs.Prelude.{◌≡◌, ℕ, zero, suc, List, [], ◌∷◌, ◌++◌, Option, Some, length, map, slice_get, slice_set}
use Rattle.std.specs.Cmp.Lexicographic.{slice_cmp}
use Rattle.std.specs.Ordering.{nat_cmp}
use Rattle.std.specs.declared.cmp.Ordering.{Ordering}
use Rattle.keyed_files.specs.Reading.{HasGiven, key_in}
use Rattle.keyed_files.specs.declared.source.Places.{Places}
use Rattle.keyed_files.specs.declared.source.Source.{Source}
use Rattle.keyed_parts.specs.Parts.{rows_in}
use Rattle.keyed_text.specs.Streams.{PutsRows}
use Rattle.keyed_text.specs.Texts.{AreRows}
use Rattle.keyed_text.specs.declared.row_writer.RowWriter.{RowWriter}

-- so many cells of a row, of which those that it lacks are empty
abbrev pub fitted : ℕ → List (List ℕ) → List (List ℕ)
fitted zero cells = []
fitted (suc n) [] = [] ∷ fitted n []
fitted (suc n) (cell ∷ cells) = cell ∷ fitted n cells

-- of the writers of parts the one at a place has a row more, and all others are as they were
pub record PutsRowAt {W : Type 0} (contents : W → Option (List ℕ)) (i : ℕ) (row : List (List ℕ)) (old new : List (RowWriter W)) : Type 0 where
  pub writer : RowWriter W
  pub puts : (before : RowWriter W) → slice_get old i ≡ Some before → PutsRows contents before writer (row ∷ [])
  pub others : new ≡ slice_set old i writer

-- of the writers of parts each has, after what it had, the rows whose key is in its part, in their order, and no other
pub record PutsPartitioned {K W : Type 0} (cmp : K → K → Ordering) (contents : W → Option (List ℕ)) (bounds : List K) (rows : List (K × List (List ℕ))) (old new : List (RowWriter W)) : Type 0 where
  pub count : length new ≡ length old
  pub part : (i : ℕ) (before after : RowWriter W) → slice_get old i ≡ Some before → slice_get new i ≡ Some after
      → PutsRows contents before after (map (λ row. row.1) (rows_in cmp bounds i rows))

-- the order of keys, as bytes cell by cell
abbrev pub key_cmp : List (List ℕ) → List (List ℕ) → Ordering
key_cmp = slice_cmp (slice_cmp nat_cmp)

-- records by their keys, each with so many cells
abbrev pub by_key : Places → ℕ → List (List (List ℕ)) → List (List (List ℕ) × List (List ℕ))
by_key places n records = map (λ fields. (key_in places fields, fitted n fields)) records

module _ {R W : Type 0} (remaining : R → Option (List ℕ)) (contents : W → Option (List ℕ)) (bounds : List (List (List ℕ))) (places : Places) (n : ℕ) where
  -- a source is read on: of each text of which it had given some records, it gave more, and each of these is put after the rows of the part
  -- of its key
  abbrev pub PartitionsOn : Source R → Source R → List (RowWriter W) → List (RowWriter W) → Type 0
  PartitionsOn source now old new = (d : ℕ) (c : Option ℕ) (text : List ℕ) (given : List (List (List ℕ)))
      → HasGiven d c remaining text given source
      → (records : List (List (List ℕ))) × HasGiven d c remaining text (given ++ records) now × PutsPartitioned key_cmp contents bounds (by_key places n records) old new

  -- a source is read to the end: after the records that it had given, these come, and no more, and each is put after the rows of the part
  -- of its key
  abbrev pub PartitionsRest : Source R → List (RowWriter W) → List (RowWriter W) → Type 0
  PartitionsRest source old new = (d : ℕ) (c : Option ℕ) (text : List ℕ) (given : List (List (List ℕ)))
      → HasGiven d c remaining text given source
      → (records : List (List (List ℕ))) × AreRows d c text (given ++ records) × PutsPartitioned key_cmp contents bounds (by_key places n records) old new
