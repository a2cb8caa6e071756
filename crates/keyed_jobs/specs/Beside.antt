-- What `diff` as CSV answers where columns are ignored: rows that differ in these alone are no change.
use Rattle.std.specs.Prelude.{◌≡◌, ◌==◌, ◌&&◌, ◌||◌, ◌++◌, ℕ, Bool, false, not, true, List, Option, None, IfSome, filter, length, map, nat_eq, zip}
use Rattle.std.specs.Cmp.Lexicographic.{pointwise}
use Rattle.std.specs.List.{list_all}
use Rattle.eob_both.specs.declared.either_or_both.EitherOrBoth.{EitherOrBoth}
use Rattle.eob_both.specs.declared.either_or_both.EitherOrBoth.TheVariants.{Left, Both, Right}
use Rattle.keyed_columns.specs.ChangedColumns.{marked_names}
use Rattle.keyed_columns.specs.ColumnNames.{has_name}
use Rattle.keyed_columns.specs.KeyText.{AreNamesIn}
use Rattle.keyed_columns.specs.Keys.{AreChangeColumns}
use Rattle.keyed_files.specs.Opening.{form_of, text_of_stream}
use Rattle.keyed_files.specs.Writing.{text_of}
use Rattle.keyed_columns.specs.declared.columns.Columns.{Columns}
use Rattle.keyed_files.specs.declared.opened.Stream.{Stream}
use Rattle.keyed_files.specs.declared.opened.Two.{Two}
use Rattle.keyed_requests.specs.declared.request.Form.{Form}
use Rattle.keyed_requests.specs.declared.request.Settings.{Settings}
use Rattle.keyed_columns.specs.declared.content.Content.TheVariants.{Rows}
use Rattle.keyed_tables.specs.Arranged.{noted}
use Rattle.keyed_jobs.specs.Answers.{ChangesComeOut, TableChanges, TableRows, status_of}
use Rattle.keyed_jobs.specs.ChangeRows.{changes_heading, changes_rows}
use Rattle.keyed_jobs.specs.FileOrder.{AreKeysOfBoth, NotesBoth, noted_with}
use Rattle.keyed_jobs.specs.TablesRead.{AreNamesBy, IsUnordered, ReadsTable, SaysTable, headers_differ}
use Rattle.keyed_jobs.specs.declared.answer.Answer.{Answer}
use Rattle.keyed_jobs.specs.declared.job.Job.{Job}

-- whether a column is compared: it is not ignored, or one table alone has it, so that its cells come or go with it
abbrev pub is_compared : List (List ℕ) → List (List ℕ) → List (List ℕ) → List ℕ → Bool
is_compared ignored before after name = not (has_name ignored name) || not (has_name before name && has_name after name)

-- which of the columns beside the key are compared, where a text names those that are ignored, each of them one of a table
pub record AreCompared (text : List ℕ) (columns : Columns) (before after : List (List ℕ)) (compared : List Bool) : Type 0 where
  pub ignored : List (List ℕ)
  pub others : List (List ℕ)
  pub given : AreNamesIn text ignored others
  pub known : list_all (λ name. has_name columns.key name || has_name columns.rest name) ignored ≡ true
  pub are : compared ≡ map (is_compared ignored before after) columns.rest

module _ (compared : List Bool) where
  -- two rows have as many cells, and the same ones in the columns that are compared
  abbrev pub same_cells : List (List ℕ) → List (List ℕ) → Bool
  same_cells row other = list_all (λ z. not z.0 || pointwise nat_eq z.1.0 z.1.1) (zip compared (zip row other))

  abbrev pub same_beside : List (List ℕ) → List (List ℕ) → Bool
  same_beside row other = (length row == length other) && same_cells row other

  -- whether the rows of a change are the same, one after another
  abbrev pub same_rows_beside : List (List (List ℕ)) → List (List (List ℕ)) → Bool
  same_rows_beside rows others = (length rows == length others) && list_all (λ pair. same_beside pair.0 pair.1) (zip rows others)

  abbrev pub is_same_change : EitherOrBoth (List (List (List ℕ))) (List (List (List ℕ))) → Bool
  is_same_change (Left old) = false
  is_same_change (Both old new) = same_rows_beside old new
  is_same_change (Right new) = false

  -- the changes whose rows are not the same, in their order
  abbrev pub changed_beside : TableChanges → TableChanges
  changed_beside changes = filter (λ change. not (is_same_change change.1)) changes

-- an answer is the text of the changes whose rows are not the same, and its status is 0 exactly where there is none and no column comes or goes
abbrev pub AnswersBeside : Form → Columns → Option (List (List (List ℕ))) → Bool → List Bool → List (List ℕ) → Bool → TableRows → TableRows → Answer → Type 0
AnswersBeside form columns noted by_cells compared marked differ old new answer = (all : TableChanges) × ChangesComeOut noted by_cells old new all
    × (answer.bytes.items ≡ text_of form (changes_heading form marked ++ changes_rows columns.order.items (changed_beside compared all)))
    × (answer.status ≡ status_of ((length (changed_beside compared all) == 0) && not differ))

-- the same with the names of columns as they are marked, and the order in which rows come out
pub record BesideIn (form : Form) (columns : Columns) (text : List ℕ) (unordered : Type 0) (before after : List (List ℕ)) (old new : TableRows) (answer : Answer) : Type 0 where
  pub compared : List Bool
  pub are : AreCompared text columns before after compared
  pub keys : Option (List (List (List ℕ)))
  pub by_cells : Bool
  pub changes : AnswersBeside form columns keys by_cells compared (marked_names before after) (headers_differ before after) old new answer
  pub order : unordered → (keys ≡ None) × (by_cells ≡ true)

-- what `diff` as CSV answers of two texts where these columns are ignored
pub record DiffsBesideTexts (settings : Settings) (ignored : List ℕ) (old_form new_form : Form) (old_text new_text : List ℕ) (answer : Answer) : Type 0 where
  pub columns : Columns
  pub header : List (List ℕ)
  pub names : List (List ℕ)
  pub next_header : List (List ℕ)
  pub named : AreNamesBy settings header names
  pub columned : AreChangeColumns settings.key names next_header columns
  pub old : TableRows
  pub new : TableRows
  pub old_says : SaysTable old_form Rows settings.groups old_text header names columns old
  pub new_says : SaysTable new_form Rows settings.groups new_text next_header next_header columns new
  pub beside : BesideIn settings.form columns ignored (settings.keeps_order ≡ false) names next_header old new answer
  pub ordered : AreKeysOfBoth old_form new_form Rows old_text new_text names next_header columns columns noted_with settings.keeps_order beside.keys

module _ {R : Type 0} (remaining : R → Option (List ℕ)) where
  -- the same of two sources
  pub record DiffsBesideSources (job : Job Columns) (ignored : List ℕ) (versions : Two R) (answer : Answer) : Type 0 where
    pub old : TableRows
    pub new : TableRows
    pub old_read : ReadsTable remaining job.groups job.columns.now versions.first.source.value old
    pub new_read : ReadsTable remaining job.groups job.columns.now versions.next.source.value new
    pub beside : BesideIn job.form job.columns.now ignored (IsUnordered job) versions.first.source.value.header.names versions.next.source.value.header.names old new answer
    pub notes : NotesBoth remaining Rows job.columns.now job.columns.now versions.first.source.value versions.next.source.value noted_with (noted job.order) beside.keys

  -- and of two streams whose texts are known
  abbrev pub DiffsBesideStreams : Settings → List ℕ → Stream R → Stream R → Answer → Type 0
  DiffsBesideStreams settings ignored old new answer = IfSome (text_of_stream remaining settings.form old) (λ old_text.
      IfSome (text_of_stream remaining settings.form new) (λ new_text.
      DiffsBesideTexts settings ignored (form_of settings.form old) (form_of settings.form new) old_text new_text answer))
