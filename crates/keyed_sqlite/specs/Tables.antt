-- The text of a table: a header and rows under it, each with as many cells.
use Rattle.std.specs.Prelude.{◌≡◌, ℕ, List, [], ◌∷◌, All, None, Option, Some, Vec, length}
use Rattle.keyed_text.specs.Streams.{HasWritten}
use Rattle.keyed_text.specs.Texts.{rows_text, writer_by}
use Rattle.keyed_text.specs.declared.row_writer.RowWriter.{RowWriter}

-- each row has so many cells
abbrev pub HaveCells : ℕ → List (List (List ℕ)) → Type 0
HaveCells width rows = All (λ row. length row ≡ width) rows

-- a text of CSV, with commas between cells, that has a header of so many cells and rows of as many
abbrev pub IsTable : ℕ → List ℕ → Type 0
IsTable width text = (header : List (List ℕ)) × (rows : List (List (List ℕ)))
    × HaveCells width (header ∷ rows) × (text ≡ rows_text 44 None (header ∷ rows))

-- the bytes that are written to a vector
abbrev pub bytes_in : {M : Type 0} → Vec ℕ M → Option (List ℕ)
bytes_in bytes = Some bytes.items

-- a writer has written such rows, the first of which is the header, and nothing else
abbrev pub WritesTable : {M : Type 0} → ℕ → RowWriter (Vec ℕ M) → Type 0
WritesTable width writer = (header : List (List ℕ)) × (rows : List (List (List ℕ))) × HaveCells width (header ∷ rows)
    × HasWritten (writer_by 44 None) bytes_in (Some []) (header ∷ rows) [] writer
