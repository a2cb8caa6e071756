-- The lines of a table that tells a person which rows changed.
use Rattle.std.specs.Prelude.{◌≡◌, ◌++◌, ℕ, Bool, List, [], ◌∷◌, None, length, map, ⊤}
use Rattle.std.specs.List.{AllZip}
use Rattle.eob_both.specs.declared.either_or_both.EitherOrBoth.{EitherOrBoth}
use Rattle.either_or_both.specs.Prelude.{left_place, right_place}
use Rattle.eob_both.specs.declared.either_or_both.EitherOrBoth.TheVariants.{Left, Both, Right}
use Rattle.keyed_columns.specs.declared.columns.Columns.{Columns}
use Rattle.keyed_faults.specs.ShownCells.{IsShownCell}
use Rattle.keyed_layout.specs.Lines.{AreBothShown, AreLinedUp, IsLineOf, picked_cells, picked_pairs, texts_of}
use Rattle.keyed_layout.specs.declared.lined_up.Line.{Line}
use Rattle.keyed_numbers.specs.declared.alike.Alike.{Alike}
use Rattle.keyed_reports.specs.RowChanges.{word_of}
use Rattle.keyed_reports.specs.SaidAfter.{text_after}
use Rattle.keyed_reports.specs.ShownColumns.{Versions, columns_shown}
use Rattle.keyed_reports.specs.declared.counts.Counts.{Counts}
use Rattle.keyed_requests.specs.declared.request.Look.{Look}
use Rattle.keyed_requests.specs.declared.request.Look.TheVariants.{Html, Json, Markdown, Table}
use Rattle.keyed_requests.specs.declared.request.RowsShown.{RowsShown}
use Rattle.keyed_requests.specs.declared.request.RowsShown.TheVariants.{All, First, Nothing}
use Rattle.keyed_requests.specs.declared.request.View.{View}

module _ (alikes : List Alike) (shown : List Bool) where
  -- the cells of the columns that are shown: of a row that came or went as they are, and of one that changed both, where they differ
  abbrev pub AreCells : EitherOrBoth (List (List ℕ)) (List (List ℕ)) → List (List ℕ) → Type 0
  AreCells (Left cells) texts = AllZip IsShownCell (picked_cells shown cells) texts
  AreCells (Both old new) texts = AllZip AreBothShown (picked_pairs alikes shown old new) texts
  AreCells (Right cells) texts = AllZip IsShownCell (picked_cells shown cells) texts

  -- the line of a row: what became of it, its key, and the cells of the columns that are shown
  abbrev pub IsLineOfRow : List (List ℕ) × EitherOrBoth (List (List ℕ)) (List (List ℕ)) → Line → Type 0
  IsLineOfRow row line = (key : List (List ℕ)) × (cells : List (List ℕ)) × AllZip IsShownCell row.0 key × AreCells row.1 cells
      × (texts_of line ≡ word_of row.1 ∷ (key ++ cells))

  -- the lines of rows, each in its turn, after one of the names of the columns that are shown
  abbrev pub AreLinesOf : Columns → List (List (List ℕ) × EitherOrBoth (List (List ℕ)) (List (List ℕ))) → List Line → Type 0
  AreLinesOf columns rows grid = (heading : Line) × (lines : List Line) × (grid ≡ heading ∷ lines)
      × IsLineOf [] (columns.key ++ picked_cells shown columns.rest) heading × AllZip IsLineOfRow rows lines

  -- the text of these lines, lined up; none where there is no row
  abbrev pub IsTextOfRows : Columns → List (List (List ℕ) × EitherOrBoth (List (List ℕ)) (List (List ℕ))) → List ℕ → Type 0
  IsTextOfRows columns [] text = text ≡ []
  IsTextOfRows columns (row ∷ rows) text = (grid : List Line) × AreLinesOf columns (row ∷ rows) grid × AreLinedUp grid text

  -- a text has them between what is said of columns and what is said after the rows
  abbrev pub HasTextOfRows : Columns → List (List (List ℕ) × EitherOrBoth (List (List ℕ)) (List (List ℕ))) → List ℕ → List ℕ → Type 0
  HasTextOfRows columns rows after text = (before : List ℕ) × (lines : List ℕ) × IsTextOfRows columns rows lines × (text ≡ before ++ (lines ++ after))

-- the versions of a row that changed
abbrev pub versions_of : List (List ℕ) × EitherOrBoth (List (List ℕ)) (List (List ℕ)) → Versions
versions_of row = (left_place row.1, right_place row.1)

-- whether each of the columns beside the key is shown of rows that changed
abbrev pub shown_in : View → List Alike → Columns → List (List (List ℕ) × EitherOrBoth (List (List ℕ)) (List (List ℕ))) → List Bool
shown_in view alikes columns rows = columns_shown view.shown alikes (length columns.rest) (map versions_of rows)

-- a table of rows that changed has a line for each, in their order, with the cells of the columns that are shown, then says how many more
-- there are and how many columns are not shown, and ends with the counts
abbrev pub IsTable : View → List Alike → Columns → ℕ → Counts → List (List (List ℕ) × EitherOrBoth (List (List ℕ)) (List (List ℕ))) → List ℕ → Type 0
IsTable view alikes columns more counts rows text = HasTextOfRows alikes (shown_in view alikes columns rows) columns rows
    (text_after (length rows) more (shown_in view alikes columns rows) counts) text

-- rows are shown, and not how many there are alone
abbrev pub TellsRows : RowsShown → Type 0
TellsRows All = ⊤
TellsRows (First most) = ⊤
TellsRows Nothing = ⊥

-- they are told as a table on lines of any length
abbrev pub TellsTable : Look → View → Type 0
TellsTable (Table colours) view = TellsRows view.rows × (view.width ≡ None)
TellsTable Json view = ⊥
TellsTable Markdown view = ⊥
TellsTable Html view = ⊥
