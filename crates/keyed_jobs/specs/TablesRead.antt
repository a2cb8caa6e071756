-- Tables that are read of texts, and what a command answers of the texts of its files.
use Rattle.std.specs.Prelude.{◌≡◌, ◌↔◌, ◌||◌, All, ℕ, Bool, false, true, List, Option, None, Some, IfSome, MatchBool, is_none, length, map}
use Rattle.keyed_requests.specs.declared.request.Form.{Form}
use Rattle.keyed_requests.specs.declared.request.Settings.{Settings}
use Rattle.keyed_columns.specs.ChangedColumns.{marked_names}
use Rattle.keyed_columns.specs.Keys.{AreChangeColumns}
use Rattle.keyed_columns.specs.Names.{compared, has_lone, renamed}
use Rattle.keyed_columns.specs.declared.columns.Columns.{Columns}
use Rattle.keyed_columns.specs.declared.content.Content.{Content}
use Rattle.keyed_columns.specs.declared.content.Content.TheVariants.{Rows}
use Rattle.keyed_files.specs.Opening.{form_of, text_of_stream}
use Rattle.keyed_files.specs.Reading.{IsOpen, IsTable, parts_of}
use Rattle.keyed_files.specs.declared.opened.Stream.{Stream}
use Rattle.keyed_files.specs.declared.opened.Two.{Two}
use Rattle.keyed_files.specs.declared.source.Source.{Source}
use Rattle.keyed_rows.specs.declared.row.ReadRow.{ReadRow}
use Rattle.keyed_tables.specs.Arranged.{noted}
use Rattle.keyed_tables.specs.Gathered.{AreInOrder, HoldsRows}
use Rattle.keyed_jobs.specs.Answers.{IsDiffText, TableRows, key_cmp, status_of}
use Rattle.keyed_jobs.specs.FileOrder.{AreKeysOfBoth, NotesBoth, noted_with}
use Rattle.keyed_jobs.specs.declared.answer.Answer.{Answer}
use Rattle.keyed_jobs.specs.declared.job.Job.{Job}

-- the rows of a file by key: each once, and one under a key, or all of a key in the order of their cells where these are groups
abbrev pub Gathers : Bool → List ReadRow → TableRows → Type 0
Gathers groups rows table = HoldsRows key_cmp (map parts_of rows) table
    × MatchBool groups (AreInOrder key_cmp table) (All (λ group. length group.1 ≡ 1) table)

-- a text says a table: its rows under columns, by key, where its header is this one and its columns are read by those names
abbrev pub SaysTable : Form → Content → Bool → List ℕ → List (List ℕ) → List (List ℕ) → Columns → TableRows → Type 0
SaysTable form kind groups text header names columns table = (rows : List ReadRow) × IsTable form kind text header names columns rows
    × Gathers groups rows table

-- a source gives the table that its text says
abbrev pub ReadsTable : {R : Type 0} → (R → Option (List ℕ)) → Bool → Columns → Source R → TableRows → Type 0
ReadsTable remaining groups columns source table = (form : Form) (kind : Content) (text : List ℕ) (header : List (List ℕ))
    → IsOpen form kind remaining text header source → SaysTable form kind groups text header source.header.names columns table

-- rows come out in the order of their keys, and those of a group in that of their cells
pub record IsUnordered {C : Type 0} (job : Job C) : Type 0 where
  pub keys : noted job.order ≡ None
  pub rows : is_none job.row_order.files ≡ true

-- whether one of two headers has a column that the other lacks; one that is empty says nothing of columns
abbrev pub headers_differ : List (List ℕ) → List (List ℕ) → Bool
headers_differ old new = has_lone (compared old new).0 (compared old new).1 || has_lone (compared old new).1 (compared old new).0

-- the status of `diff`: 0 exactly where both tables are the same and no column comes or goes, and else 1
abbrev pub IsStatusBetween : List (List ℕ) → List (List ℕ) → TableRows → TableRows → ℕ → Type 0
IsStatusBetween before after old new status = (same : Bool) × ((same ≡ true) ↔ ((old ≡ new) × (headers_differ before after ≡ false)))
    × (status ≡ status_of same)

-- the names by which columns are read: those of the header, unless the key has columns with two names
abbrev pub AreNames : {A : Type 0} → Option A → List (List ℕ) → List (List ℕ) → Type 0
AreNames None header names = names ≡ header
AreNames (Some key) header names = (first : List (List ℕ)) × (others : List (List ℕ)) × (names ≡ map (renamed first others) header)

-- and unless columns are renamed
abbrev pub AreNamesBy : Settings → List (List ℕ) → List (List ℕ) → Type 0
AreNamesBy settings header names = (between : List (List ℕ)) × AreNames settings.key header between × AreNames settings.renames between names

-- the changes between two tables: the names of columns as they are marked, and the order in which rows come out
pub record ChangesBetween (form : Form) (columns : Columns) (unordered : Type 0) (old new : TableRows) (text : List ℕ) : Type 0 where
  pub marked : List (List ℕ)
  pub keys : Option (List (List (List ℕ)))
  pub by_cells : Bool
  pub changes : IsDiffText form columns keys by_cells marked old new text
  pub order : unordered → (keys ≡ None) × (by_cells ≡ true)

-- an answer to `diff` as CSV of two texts: each says a table under the columns of both, and the answer is the text of exactly the changes
-- between them, whose header marks each column by what became of it
pub record DiffsTexts (settings : Settings) (old_form new_form : Form) (old_text new_text : List ℕ) (answer : Answer) : Type 0 where
  pub columns : Columns
  pub header : List (List ℕ)
  pub names : List (List ℕ)
  pub next_header : List (List ℕ)
  pub named : AreNamesBy settings header names
  pub columned : AreChangeColumns settings.key names next_header columns
  pub old : TableRows
  pub new : TableRows
  pub old_says : SaysTable old_form Rows settings.groups old_text header names columns old
  pub new_says : SaysTable new_form Rows settings.groups new_text next_header next_header columns new
  pub changes : ChangesBetween settings.form columns (settings.keeps_order ≡ false) old new answer.bytes.items
  pub ordered : AreKeysOfBoth old_form new_form Rows old_text new_text names next_header columns columns noted_with settings.keeps_order changes.keys
  pub marks : changes.marked ≡ marked_names names next_header
  pub status : IsStatusBetween names next_header old new answer.status

module _ {R : Type 0} (remaining : R → Option (List ℕ)) where
  -- an answer to `diff` as CSV of two sources: the text of exactly the changes between their tables
  pub record DiffsSources (job : Job Columns) (versions : Two R) (answer : Answer) : Type 0 where
    pub old : TableRows
    pub new : TableRows
    pub old_read : ReadsTable remaining job.groups job.columns.now versions.first.source.value old
    pub new_read : ReadsTable remaining job.groups job.columns.now versions.next.source.value new
    pub changes : ChangesBetween job.form job.columns.now (IsUnordered job) old new answer.bytes.items
    pub notes : NotesBoth remaining Rows job.columns.now job.columns.now versions.first.source.value versions.next.source.value noted_with (noted job.order)
        changes.keys
    pub marks : changes.marked ≡ marked_names versions.first.source.value.header.names versions.next.source.value.header.names
    pub status : IsStatusBetween versions.first.source.value.header.names versions.next.source.value.header.names old new answer.status

  -- what `diff` as CSV answers of two streams whose texts are known
  abbrev pub DiffsStreams : Settings → Stream R → Stream R → Answer → Type 0
  DiffsStreams settings old new answer = IfSome (text_of_stream remaining settings.form old) (λ old_text.
      IfSome (text_of_stream remaining settings.form new) (λ new_text.
      DiffsTexts settings (form_of settings.form old) (form_of settings.form new) old_text new_text answer))
