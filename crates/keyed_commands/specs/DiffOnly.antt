-- What `diff` as CSV answers of the key and some columns alone, and by the columns that are picked.
use Rattle.std.specs.Prelude.{◌≡◌, ℕ, List, Option, IfSome, false}
use Rattle.std.specs.Borrow.{Bor}
use Rattle.keyed_columns.specs.ChangedColumns.{marked_columns}
use Rattle.keyed_columns.specs.Keys.{AreChangeColumns, ArePickedColumns}
use Rattle.keyed_columns.specs.declared.columns.Columns.{Columns}
use Rattle.keyed_columns.specs.declared.content.Content.TheVariants.{Rows}
use Rattle.keyed_files.specs.Opening.{form_of, text_of_stream}
use Rattle.keyed_files.specs.declared.opened.Stream.{Stream}
use Rattle.keyed_files.specs.declared.opened.Two.{Two}
use Rattle.keyed_requests.specs.declared.request.Form.{Form}
use Rattle.keyed_requests.specs.declared.request.Picked.{Picked}
use Rattle.keyed_requests.specs.declared.request.Picked.TheVariants as picked
use Rattle.keyed_requests.specs.declared.request.Settings.{Settings}
use Rattle.keyed_tables.specs.Arranged.{noted}
use Rattle.keyed_jobs.specs.Answers.{TableRows}
use Rattle.keyed_jobs.specs.Beside.{DiffsBesideSources, DiffsBesideStreams}
use Rattle.keyed_jobs.specs.FileOrder.{AreKeysOfBoth, NotesBoth, noted_with}
use Rattle.keyed_jobs.specs.TablesRead.{AreNamesBy, ChangesBetween, DiffsSources, DiffsStreams, IsStatusBetween, IsUnordered, ReadsTable, SaysTable}
use Rattle.keyed_jobs.specs.declared.answer.Answer.{Answer}
use Rattle.keyed_jobs.specs.declared.job.Job.{Job}
use Rattle.keyed_commands.specs.Reported.{names_among}

-- the columns of changes, or of these the key and those that are picked alone
abbrev pub AreChangeColumnsBy : Picked → Option (Bor (List ℕ)) → List (List ℕ) → List (List ℕ) → Columns → Type 0
AreChangeColumnsBy picked.All key old new columns = AreChangeColumns key old new columns
AreChangeColumnsBy (picked.Only names) key old new columns =
    (all : Columns) × AreChangeColumns key old new all × ArePickedColumns (picked.Only names) all columns
AreChangeColumnsBy (picked.AllBut names) key old new columns = AreChangeColumns key old new columns

-- an answer to `diff` as CSV of two texts, of the key and some columns alone: each says a table under these columns, the answer is the text
-- of exactly the changes between them, whose header marks each of them by what became of it, and the status is 0 exactly where both are the
-- same and none of them comes or goes
pub record DiffsOnlyTexts (settings : Settings) (by : Picked) (old_form new_form : Form) (old_text new_text : List ℕ) (answer : Answer) : Type 0 where
  pub columns : Columns
  pub header : List (List ℕ)
  pub names : List (List ℕ)
  pub next_header : List (List ℕ)
  pub named : AreNamesBy settings header names
  pub columned : AreChangeColumnsBy by settings.key names next_header columns
  pub old : TableRows
  pub new : TableRows
  pub old_says : SaysTable old_form Rows settings.groups old_text header names columns old
  pub new_says : SaysTable new_form Rows settings.groups new_text next_header next_header columns new
  pub changes : ChangesBetween settings.form columns (settings.keeps_order ≡ false) old new answer.bytes.items
  pub ordered : AreKeysOfBoth old_form new_form Rows old_text new_text names next_header columns columns noted_with settings.keeps_order changes.keys
  pub marks : changes.marked ≡ marked_columns columns names next_header
  pub status : IsStatusBetween (names_among columns names) (names_among columns next_header) old new answer.status

module _ {R : Type 0} (remaining : R → Option (List ℕ)) where
  -- the same of two sources
  pub record DiffsOnlySources (job : Job Columns) (versions : Two R) (answer : Answer) : Type 0 where
    pub old : TableRows
    pub new : TableRows
    pub old_read : ReadsTable remaining job.groups job.columns.now versions.first.source.value old
    pub new_read : ReadsTable remaining job.groups job.columns.now versions.next.source.value new
    pub changes : ChangesBetween job.form job.columns.now (IsUnordered job) old new answer.bytes.items
    pub notes : NotesBoth remaining Rows job.columns.now job.columns.now versions.first.source.value versions.next.source.value noted_with (noted job.order)
        changes.keys
    pub marks : changes.marked ≡ marked_columns job.columns.now versions.first.source.value.header.names versions.next.source.value.header.names
    pub status : IsStatusBetween (names_among job.columns.now versions.first.source.value.header.names)
        (names_among job.columns.now versions.next.source.value.header.names) old new answer.status

  -- and of two streams whose texts are known
  abbrev pub DiffsOnlyStreams : Settings → Picked → Stream R → Stream R → Answer → Type 0
  DiffsOnlyStreams settings by old new answer = IfSome (text_of_stream remaining settings.form old) (λ old_text.
      IfSome (text_of_stream remaining settings.form new) (λ new_text.
      DiffsOnlyTexts settings by (form_of settings.form old) (form_of settings.form new) old_text new_text answer))

  -- `diff` as CSV by the columns that are picked: all changes, those in some columns alone, or those beside columns that are ignored
  abbrev pub DiffsSourcesBy : Picked → Job Columns → Two R → Answer → Type 0
  DiffsSourcesBy picked.All job versions answer = DiffsSources remaining job versions answer
  DiffsSourcesBy (picked.Only names) job versions answer = DiffsOnlySources job versions answer
  DiffsSourcesBy (picked.AllBut names) job versions answer = DiffsBesideSources remaining job names.now versions answer

  abbrev pub DiffsStreamsBy : Picked → Settings → Stream R → Stream R → Answer → Type 0
  DiffsStreamsBy picked.All settings old new answer = DiffsStreams remaining settings old new answer
  DiffsStreamsBy (picked.Only names) settings old new answer = DiffsOnlyStreams settings (picked.Only names) old new answer
  DiffsStreamsBy (picked.AllBut names) settings old new answer = DiffsBesideStreams remaining settings names.now old new answer
