-- What follows of every text that is written or read.
use Rattle.std.specs.Prelude.{◌≡◌, ◌≢◌, ℕ, List, [], ◌∷◌, All, Option}
use Rattle.csv.specs.Reading.{strip_bom}
use Rattle.keyed_text.specs.Spelling.{rows_spelled, text_as}
use Rattle.keyed_text.specs.Texts.{AreRows, BeginsComments, PartsCells, ReadsAs, finished, styled_text}
use Rattle.keyed_text.specs.declared.spelling.RowSpelling.{RowSpelling}
use Rattle.keyed_text.specs.declared.style.LineEnd.{LineEnd}
use Rattle.keyed_text.specs.declared.style.Style.{Style}

-- a row of at least one cell
abbrev pub HasCells : List (List ℕ) → Type 0
HasCells row = row ≢ []

-- the first cell, where there is one
abbrev pub first_of : List (List ℕ) → List ℕ
first_of [] = []
first_of (cell ∷ row) = cell

-- a row whose first cell begins with no byte order mark
abbrev pub HasNoMark : List (List ℕ) → Type 0
HasNoMark row = strip_bom (first_of row) ≡ first_of row

-- the file of a header and rows, in any style, reads back as them, and as nothing else
abbrev pub ReadsBackLaw : Type 0
ReadsBackLaw = (s : Style) (d : ℕ) (c : Option ℕ) → PartsCells d → BeginsComments d c → (header : List (List ℕ)) (rows : List (List (List ℕ)))
    → HasNoMark header → All HasCells (header ∷ rows)
    → ReadsAs d c (styled_text s d c (header ∷ rows)) header rows
    × ((names : List (List ℕ)) (found : List (List (List ℕ))) → ReadsAs d c (styled_text s d c (header ∷ rows)) names found
    → (names ≡ header) × (found ≡ rows))

-- a text has one list of rows
abbrev pub ReadsOnceLaw : Type 0
ReadsOnceLaw = (d : ℕ) (c : Option ℕ) (text : List ℕ) (rows others : List (List (List ℕ)))
    → AreRows d c text rows → AreRows d c text others → rows ≡ others

-- and each of them has a cell
abbrev pub RowsHaveCellsLaw : Type 0
RowsHaveCellsLaw = (d : ℕ) (c : Option ℕ) (text : List ℕ) (rows : List (List (List ℕ))) → AreRows d c text rows → All HasCells rows

-- the file of rows, in any style and each row in any spelling, reads back as them, where their text begins with no byte order mark
abbrev pub SpelledBackLaw : Type 0
SpelledBackLaw = (s : Style) (d : ℕ) (c : Option ℕ) → PartsCells d → BeginsComments d c
    → (row : RowSpelling × List (List ℕ)) (rows : List (RowSpelling × List (List ℕ))) (after : List LineEnd)
    → All HasCells (rows_spelled (row ∷ rows)) → strip_bom (text_as s d c (row ∷ rows) after) ≡ text_as s d c (row ∷ rows) after
    → AreRows d c (finished s (text_as s d c (row ∷ rows) after)) (rows_spelled (row ∷ rows))
