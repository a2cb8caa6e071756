-- Changes of which some do not fit a table: the table with the others made to it, and those that do not fit as a text of changes.
use Rattle.std.specs.Prelude.{◌≡◌, ℕ, Bool, true, false, List, [], ◌∷◌, ◌++◌, Option, None, Some, map, if◌then◌else◌}
use Rattle.either_or_both.specs.Prelude.{right_place}
use Rattle.eob_both.specs.declared.either_or_both.EitherOrBoth.{EitherOrBoth}
use Rattle.eob_both.specs.declared.either_or_both.EitherOrBoth.TheVariants.{Left, Both, Right}
use Rattle.keyed_requests.specs.declared.request.Direction.{Direction}
use Rattle.keyed_requests.specs.declared.request.Direction.TheVariants.{Backward, Forward}
use Rattle.keyed_requests.specs.declared.request.Form.{Form}
use Rattle.keyed_requests.specs.declared.writing.Heading.TheVariants.{Written}
use Rattle.keyed_text.specs.declared.style.CellQuotes.TheVariants.{WhereNeeded}
use Rattle.keyed_text.specs.declared.style.LineEnd.TheVariants.{Lf}
use Rattle.keyed_columns.specs.ChangedColumns.{marked_name}
use Rattle.keyed_columns.specs.ColumnNames.{AreColumns, has_name}
use Rattle.keyed_columns.specs.Placed.{names_placed}
use Rattle.keyed_columns.specs.declared.columns.Columns.{Columns}
use Rattle.keyed_columns.specs.declared.fate.Fate.{Fate}
use Rattle.keyed_columns.specs.declared.fate.Fate.TheVariants as fate
use Rattle.keyed_files.specs.Writing.{text_of}
use Rattle.keyed_jobs.specs.Answers.{TableChanges, fits_place, rows_eq}
use Rattle.keyed_jobs.specs.ChangeRows.{changes_heading, changes_rows}
use Rattle.keyed_jobs.specs.ComeOut.{AlikePlaces, AlikeRows, ComesOut}
use Rattle.keyed_jobs.specs.declared.rejected.ChangesForm.{ChangesForm}

-- the rows that stand under a key
abbrev Under : Type 0
Under = List (List (List ℕ))

-- whether a change fits what a table has under its key, if it has anything there: it is from the same rows
abbrev pub fits_there : Option Under → EitherOrBoth Under Under → Bool
fits_there has change = fits_place rows_eq has (Some change)

-- what a table has and the change under the same key: what stands there once the changes are made that fit
abbrev pub applied_where_fits : EitherOrBoth Under (EitherOrBoth Under Under) → Option Under
applied_where_fits (Left rows) = Some rows
applied_where_fits (Both rows change) = if fits_there (Some rows) change then right_place change else Some rows
applied_where_fits (Right change) = if fits_there None change then right_place change else None

-- and the change, where it does not fit
abbrev pub rejected_at : EitherOrBoth Under (EitherOrBoth Under Under) → Option (EitherOrBoth Under Under)
rejected_at (Left rows) = None
rejected_at (Both rows change) = if fits_there (Some rows) change then None else Some change
rejected_at (Right change) = if fits_there None change then None else Some change

-- all columns as ones that are written: those that are so far, and then those of the key and the others that are not
abbrev pub AreAll : Columns → Columns → Type 0
AreAll columns all = AreColumns columns.key (names_placed columns ∷ columns.key ∷ columns.rest ∷ []) all

-- the same form with the names of the columns before the rows, quotes where they are needed, and LF after each row
abbrev pub plain : Form → Form
plain form = record form { writing = record { heading = Written; style = record { has_mark = false; quotes = WhereNeeded; line_end = Lf; has_end = true } } }

-- what becomes of a column, where these go and these come
abbrev pub fate_in : List (List ℕ) → List (List ℕ) → List ℕ → Fate
fate_in going coming name = if has_name going name then fate.Goes else (if has_name coming name then fate.Comes else fate.Stays)

abbrev pub marked_in : List (List ℕ) → List (List ℕ) → List ℕ → List ℕ
marked_in going coming name = marked_name (fate_in going coming name) name

-- a text has changes as they come out, under all columns, after the heading of changes that says which of them go and which come
abbrev pub IsChangesText : ChangesForm → Columns → Option (List (List (List ℕ))) → Bool → TableChanges → List ℕ → Type 0
IsChangesText how columns noted by_cells changes text = (shown : TableChanges) × (all : Columns)
    × ComesOut noted by_cells (AlikePlaces AlikeRows AlikeRows) changes shown × AreAll columns all
    × (text ≡ text_of how.form (changes_heading how.form (map (marked_in how.going how.coming) (names_placed all)) ++ changes_rows all.order.items shown))

-- the other direction
abbrev pub other_way : Direction → Direction
other_way Forward = Backward
other_way Backward = Forward
