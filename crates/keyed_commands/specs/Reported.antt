-- What `diff` tells a person or a program of two texts: the status, by the columns that are compared, and as a table a line for each row that
-- is shown.
use Rattle.std.specs.Prelude.{◌≡◌, ◌++◌, ℕ, Bool, false, true, List, [], ◌∷◌, None, Option, IfSome, filter, length, replicate, ⊤}
use Rattle.std.specs.Borrow.{Bor}
use Rattle.eob_both.specs.declared.either_or_both.EitherOrBoth.{EitherOrBoth}
use Rattle.keyed_columns.specs.Alikes.{as_they_stand}
use Rattle.keyed_columns.specs.ColumnNames.{has_name}
use Rattle.keyed_columns.specs.Keys.{AreColumnsBy, ArePickedColumns}
use Rattle.keyed_columns.specs.declared.columns.Columns.{Columns}
use Rattle.keyed_columns.specs.declared.content.Content.TheVariants.{Rows}
use Rattle.keyed_files.specs.Opening.{form_of, text_of_stream}
use Rattle.keyed_files.specs.declared.opened.Stream.{Stream}
use Rattle.keyed_files.specs.declared.opened.Two.{Two}
use Rattle.keyed_reports.specs.RowChanges.{row_changes, rows_eq}
use Rattle.keyed_reports.specs.SaidAfter.{count_rows, counts_of}
use Rattle.keyed_reports.specs.Shown.{count_more, shown_rows}
use Rattle.keyed_reports.specs.TableLines.{IsTable, TellsTable}
use Rattle.keyed_requests.specs.declared.request.Comparing.{Comparing}
use Rattle.keyed_requests.specs.declared.request.Form.{Form}
use Rattle.keyed_requests.specs.declared.request.Format.{Format}
use Rattle.keyed_requests.specs.declared.request.Format.TheVariants.{Csv, Report}
use Rattle.keyed_requests.specs.declared.request.Picked.{Picked}
use Rattle.keyed_requests.specs.declared.request.Settings.{Settings}
use Rattle.keyed_requests.specs.declared.request.View.{View}
use Rattle.keyed_tables.specs.Arranged.{noted}
use Rattle.keyed_jobs.specs.Answers.{ChangesComeOut, TableChanges, TableRows}
use Rattle.keyed_jobs.specs.FileOrder.{AreKeysOfBoth, NotesBoth, noted_with}
use Rattle.keyed_jobs.specs.TablesRead.{AreNamesBy, IsStatusBetween, IsUnordered, ReadsTable, SaysTable}
use Rattle.keyed_jobs.specs.declared.answer.Answer.{Answer}
use Rattle.keyed_jobs.specs.declared.job.Job.{Job}

-- changes are told as a report, and not as CSV
abbrev pub IsReport : Format → Type 0
IsReport Csv = ⊥
IsReport (Report look) = ⊤

-- the columns of tables with these headers, and of them those that are picked
abbrev pub AreComparedColumns : Picked → Option (Bor (List ℕ)) → List (List (List ℕ)) → Columns → Type 0
AreComparedColumns by key headers columns = (all : Columns) × AreColumnsBy key headers headers all × ArePickedColumns by all columns

-- the names of a header that are those of columns, in its order
abbrev pub names_among : Columns → List (List ℕ) → List (List ℕ)
names_among columns header = filter (has_name (columns.key ++ columns.rest)) header

-- they are told as a table on lines of any length
abbrev pub IsTold : Format → View → Type 0
IsTold Csv view = ⊥
IsTold (Report look) view = TellsTable look view

-- a table of these rows, which changed of a table that had so many: a line for each that is shown, and the counts of all
abbrev pub IsTableOf : View → Columns → ℕ → List (List (List ℕ) × EitherOrBoth (List (List ℕ)) (List (List ℕ))) → List ℕ → Type 0
IsTableOf view columns old_rows rows text = IsTable view (replicate (length columns.rest) as_they_stand) columns
    (count_more view.rows (length rows)) (counts_of old_rows rows) (shown_rows view.rows rows) text

-- a table of the changes between two tables, in the order in which these come out: a line for each row that is shown, nothing left out, and
-- how many rows were added, were removed, changed and stayed the same
pub record TellsChanges (view : View) (groups : Bool) (columns : Columns) (keys : Option (List (List (List ℕ)))) (by_cells : Bool) (old new : TableRows)
    (text : List ℕ) : Type 0 where
  pub changes : TableChanges
  pub come_out : ChangesComeOut keys by_cells old new changes
  pub table : IsTableOf view columns (count_rows old) (row_changes rows_eq groups changes) text

-- the same where a table is asked for, with the order in which rows come out
pub record ToldBetween (how : Comparing) (groups : Bool) (columns : Columns) (unordered : Type 0) (old new : TableRows) (text : List ℕ) : Type 0 where
  pub keys : Option (List (List (List ℕ)))
  pub by_cells : Bool
  pub table : IsTold how.format how.view → TellsChanges how.view groups columns keys by_cells old new text
  pub order : unordered → (keys ≡ None) × (by_cells ≡ true)

-- an answer to `diff` as a report of two texts: each says a table under the columns that are compared, the status is 0 exactly where both
-- are the same and no such column comes or goes, and else 1, and a table tells of the changes between them
pub record ReportsTexts (settings : Settings) (how : Comparing) (old_form new_form : Form) (old_text new_text : List ℕ) (answer : Answer) : Type 0 where
  pub columns : Columns
  pub header : List (List ℕ)
  pub names : List (List ℕ)
  pub next_header : List (List ℕ)
  pub named : AreNamesBy settings header names
  pub columned : AreComparedColumns how.view.columns settings.key (names ∷ next_header ∷ []) columns
  pub old : TableRows
  pub new : TableRows
  pub old_says : SaysTable old_form Rows settings.groups old_text header names columns old
  pub new_says : SaysTable new_form Rows settings.groups new_text next_header next_header columns new
  pub status : IsStatusBetween (names_among columns names) (names_among columns next_header) old new answer.status
  pub told : ToldBetween how settings.groups columns (settings.keeps_order ≡ false) old new answer.bytes.items
  pub ordered : AreKeysOfBoth old_form new_form Rows old_text new_text names next_header columns columns noted_with settings.keeps_order told.keys

module _ {R : Type 0} (remaining : R → Option (List ℕ)) where
  -- the same of two sources
  pub record ReportsSources (job : Job Columns) (how : Comparing) (versions : Two R) (answer : Answer) : Type 0 where
    pub old : TableRows
    pub new : TableRows
    pub old_read : ReadsTable remaining job.groups job.columns.now versions.first.source.value old
    pub new_read : ReadsTable remaining job.groups job.columns.now versions.next.source.value new
    pub status : IsStatusBetween (names_among job.columns.now versions.first.source.value.header.names)
        (names_among job.columns.now versions.next.source.value.header.names) old new answer.status
    pub told : ToldBetween how job.groups job.columns.now (IsUnordered job) old new answer.bytes.items
    pub notes : NotesBoth remaining Rows job.columns.now job.columns.now versions.first.source.value versions.next.source.value noted_with (noted job.order)
        told.keys

  -- and of two streams whose texts are known
  abbrev pub ReportsStreams : Comparing → Settings → Stream R → Stream R → Answer → Type 0
  ReportsStreams how settings old new answer = IfSome (text_of_stream remaining settings.form old) (λ old_text.
      IfSome (text_of_stream remaining settings.form new) (λ new_text.
      ReportsTexts settings how (form_of settings.form old) (form_of settings.form new) old_text new_text answer))
