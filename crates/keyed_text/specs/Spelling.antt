-- The text of rows that are spelled one by one: which cells are in quotes, how a row ends, and which blank lines stand before it.
use Rattle.std.specs.Prelude.{◌≡◌, ◌==◌, ℕ, Bool, true, false, List, [], ◌∷◌, ◌++◌, Option, drop, flat_map, if◌then◌else◌, length, map}
use Rattle.csv.specs.Writing.{end_text, field_text}
use Rattle.keyed_text.specs.Texts.{finished, terminator_of, writer_in}
use Rattle.keyed_text.specs.declared.spelling.RowSpelling.{RowSpelling}
use Rattle.keyed_text.specs.declared.style.CellQuotes.TheVariants.{Everywhere, WhereNeeded}
use Rattle.keyed_text.specs.declared.style.LineEnd.{LineEnd}
use Rattle.keyed_text.specs.declared.style.LineEnd.TheVariants.{Lf}
use Rattle.keyed_text.specs.declared.style.Style.{Style}

-- the style of a cell that is in quotes, or only where it needs them
abbrev pub cell_style : Bool → Style
cell_style quoted = record { has_mark = false; quotes = if quoted then Everywhere else WhereNeeded; line_end = Lf; has_end = true }

-- the text of a cell
abbrev pub cell_as : ℕ → Option ℕ → Bool → List ℕ → List ℕ
cell_as d c quoted cell = field_text (writer_in (cell_style quoted) d c) cell

-- whether the first of some cells is in quotes; those that nothing is said of are in none
abbrev pub first_quoted : List Bool → Bool
first_quoted [] = false
first_quoted (quoted ∷ quotes) = quoted

-- the text of cells that stand after another one
unfoldable pub cells_as : ℕ → Option ℕ → List Bool → List (List ℕ) → List ℕ
cells_as d c quotes [] = []
cells_as d c quotes (cell ∷ rest) = d ∷ (cell_as d c (first_quoted quotes) cell ++ cells_as d c (drop 1 quotes) rest)

-- the text of the cells of a row
abbrev pub body_as : ℕ → Option ℕ → List Bool → List (List ℕ) → List ℕ
body_as d c quotes [] = []
body_as d c quotes (cell ∷ rest) = cell_as d c (first_quoted quotes) cell ++ cells_as d c (drop 1 quotes) rest

-- where this shows no byte, two quotes stand for the one empty cell
abbrev pub shown_body : List ℕ → List ℕ
shown_body body = if length body == 0 then 34 ∷ 34 ∷ [] else body

-- blank lines that end so
abbrev pub blank_lines : List LineEnd → List ℕ
blank_lines ends = flat_map (λ line_end. end_text (terminator_of line_end)) ends

-- how a row ends: as the style says where the last row has no end
abbrev pub row_end : Style → RowSpelling → LineEnd
row_end s spelling = if s.has_end then spelling.line_end else s.line_end

-- the text of a row
abbrev pub row_as : Style → ℕ → Option ℕ → RowSpelling → List (List ℕ) → List ℕ
row_as s d c spelling row = blank_lines spelling.before.items ++ (shown_body (body_as d c spelling.quotes.items row) ++ end_text (terminator_of (row_end s spelling)))

-- the text of rows, each in its spelling
abbrev pub rows_as : Style → ℕ → Option ℕ → List (RowSpelling × List (List ℕ)) → List ℕ
rows_as s d c rows = flat_map (λ row. row_as s d c row.0 row.1) rows

-- the same, and then blank lines
abbrev pub text_as : Style → ℕ → Option ℕ → List (RowSpelling × List (List ℕ)) → List LineEnd → List ℕ
text_as s d c rows after = rows_as s d c rows ++ (if s.has_end then blank_lines after else [])

-- rows without their spelling
abbrev pub rows_spelled : List (RowSpelling × List (List ℕ)) → List (List (List ℕ))
rows_spelled rows = map (λ row. row.1) rows
