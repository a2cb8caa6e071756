-- Why a command gives no answer: a stream can't be opened, or of those that are a column or a row is to blame, or neither is; and of which file that
-- is told.
use Rattle.std.specs.Prelude.{◌≡◌, ◌⊎◌, ℕ, Bool, List, [], ◌∷◌, IfSome, IsOk, Option}
use Rattle.std.specs.Borrow.{Bor}
use Rattle.keyed_faults.specs.Outside.{IsApart}
use Rattle.keyed_faults.specs.declared.fault.Fault.{Fault}
use Rattle.keyed_requests.specs.declared.request.Comparing.{Comparing}
use Rattle.keyed_requests.specs.declared.request.Direction.{Direction}
use Rattle.keyed_requests.specs.declared.request.Form.{Form}
use Rattle.keyed_requests.specs.declared.request.Format.TheVariants.{Csv}
use Rattle.keyed_requests.specs.declared.request.Settings.{Settings}
use Rattle.keyed_columns.specs.ColumnNames.{AreColumns}
use Rattle.keyed_columns.specs.Keys.{AreChangedColumnsBy, AreJoinColumns, AreMergedColumnsBy}
use Rattle.keyed_columns.specs.declared.columns.Columns.{Columns}
use Rattle.keyed_columns.specs.declared.columns.JoinColumns.{JoinColumns}
use Rattle.keyed_columns.specs.declared.content.Content.{Content}
use Rattle.keyed_columns.specs.declared.content.Content.TheVariants.{Changes, Rows}
use Rattle.keyed_files.specs.Explained.{ExplainsBoth, ExplainsNamingAnew, ExplainsOpening}
use Rattle.keyed_files.specs.Gone.{IsTurned}
use Rattle.keyed_files.specs.Opening.{IsNamedAnew, first_header, form_of, headers_of, next_header, text_of_stream}
use Rattle.keyed_files.specs.Reading.{IsOpen}
use Rattle.keyed_files.specs.declared.opened.Opened.{Opened}
use Rattle.keyed_files.specs.declared.opened.Stream.{Stream}
use Rattle.keyed_files.specs.declared.opened.Two.{Two}
use Rattle.keyed_jobs.specs.Unread.{ExplainsInputs, ExplainsTable, ExplainsTables, ExplainsUnread}
use Rattle.keyed_commands.specs.DiffOnly.{AreChangeColumnsBy}
use Rattle.keyed_commands.specs.Reported.{AreComparedColumns, IsReport}

-- a file is one of these
abbrev pub IsAmong : List (Bor (List ℕ)) → Bor (List ℕ) → Type 0
IsAmong [] file = ⊥
IsAmong (one ∷ files) file = (file ≡ one) ⊎ IsAmong files file

-- neither the header nor the rows of a table are to blame, and the fault is told of one of these files
abbrev pub IsApartOf : List (Bor (List ℕ)) → Fault → Type 0
IsApartOf files fault = IsApart fault.reason × IsAmong files fault.file

-- the columns of `diff`
pub record AreDiffColumns {R : Type 0} (how : Comparing) (settings : Settings) (versions : Two R) (columns : Columns) : Type 0 where
  pub csv : how.format ≡ Csv → AreChangeColumnsBy how.view.columns settings.key (first_header versions) (next_header versions) columns
  pub report : IsReport how.format → AreComparedColumns how.view.columns settings.key (headers_of versions) columns

-- the files of two tables that are opened
abbrev pub files_of : {R : Type 0} → Two R → List (Bor (List ℕ))
files_of two = two.first.file ∷ two.next.file ∷ []

-- and those of three
abbrev pub files_of_three : {R : Type 0} → Opened R → Two R → List (Bor (List ℕ))
files_of_three base sides = base.file ∷ files_of sides

module _ {S : Type 0} (left : S → Option (List ℕ)) where
  -- why two tables under the same columns are not both read, or what has no table to blame
  abbrev pub ExplainsVersions : Bool → Columns → Two S → Fault → Type 0
  ExplainsVersions groups columns versions fault = IsApartOf (files_of versions) fault ⊎ ExplainsTables left groups columns columns versions fault

  -- the same of a table and of changes
  abbrev pub ExplainsChange : Bool → Columns → Two S → Fault → Type 0
  ExplainsChange groups columns inputs fault = IsApartOf (files_of inputs) fault ⊎ ExplainsInputs left groups columns inputs fault

  -- why one of a table and two versions of it is not read
  abbrev pub ExplainsThree : Bool → Columns → Opened S → Two S → Fault → Type 0
  ExplainsThree groups columns base sides fault = ((fault.file ≡ base.file) × ExplainsTable left groups columns base.source.value fault.reason)
      ⊎ ExplainsTables left groups columns columns sides fault

  -- and under the columns of `merge`
  abbrev pub ExplainsMerged : Settings → Opened S → Two S → Fault → Type 0
  ExplainsMerged settings base sides fault = (columns : Columns)
      × AreMergedColumnsBy settings.key base.source.value.header.names (first_header sides) (next_header sides) columns
      × ExplainsThree settings.groups columns base sides fault

  -- why a table, or changes that are turned in a direction, are not read under the columns of the table that they make
  abbrev pub ExplainsTurned : Settings → Direction → Fault → Two S → Type 0
  ExplainsTurned settings direction fault inputs = (turned : Opened S) × (turned.file ≡ inputs.next.file)
      × IsTurned direction inputs.next.source.value turned.source.value
      × (columns : Columns) × AreChangedColumnsBy settings.key (first_header inputs) turned.source.value.header.names turned.source.value.header.gone columns
      × ExplainsInputs left settings.groups columns (record inputs { next = turned }) fault

  -- why two versions of a table are not read under the columns of `diff`
  abbrev pub ExplainsCompared : Settings → Comparing → Fault → Two S → Type 0
  ExplainsCompared settings how fault versions = (columns : Columns) × AreDiffColumns how settings versions columns
      × ExplainsTables left settings.groups columns columns versions fault

  -- why the two sides of a join are not read under its columns
  abbrev pub ExplainsJoined : Settings → Fault → Two S → Type 0
  ExplainsJoined settings fault sides = (columns : JoinColumns) × AreJoinColumns settings.key (first_header sides) (next_header sides) columns
      × ExplainsTables left settings.groups columns.left columns.right sides fault

  -- why the rows of one of two tables are not read
  abbrev pub ExplainsRowsOf : Columns → Two S → Fault → Type 0
  ExplainsRowsOf columns two fault = ((fault.file ≡ two.first.file) × ExplainsUnread left columns two.first.source.value fault.reason)
      ⊎ ((fault.file ≡ two.next.file) × ExplainsUnread left columns two.next.source.value fault.reason)

  -- the same under the columns of both, none of which is a key
  abbrev pub ExplainsKeyless : Fault → Two S → Type 0
  ExplainsKeyless fault versions = (columns : Columns) × AreColumns [] (next_header versions ∷ first_header versions ∷ []) columns
      × ExplainsRowsOf columns versions fault

module _ {R S : Type 0} (remaining : R → Option (List ℕ)) (left : S → Option (List ℕ)) where
  -- the header of a stream is read, by a reader that has the text of the stream
  pub record OpensFile (form : Form) (kind : Content) (stream : Stream R) (opened : Opened S) : Type 0 where
    pub ready : IsOk stream.reader
    pub named : opened.file ≡ stream.file
    pub reads : IfSome (text_of_stream remaining form stream)
        (λ text. IsOpen (form_of form stream) kind left text opened.source.value.header.names opened.source.value)

  -- the same of a first table, whose columns have got other names since
  pub record OpensAnew (settings : Settings) (stream : Stream R) (opened : Opened S) : Type 0 where
    pub before : Opened S
    pub opens : OpensFile settings.form Rows stream before
    pub named : opened.file ≡ stream.file
    pub anew : IsNamedAnew settings before.source.value opened.source.value

  -- why the columns of a first table do not get other names
  abbrev pub ExplainsAnew : Settings → Stream R → Fault → Type 0
  ExplainsAnew settings stream fault = (opened : Opened S) × OpensFile settings.form Rows stream opened
      × (fault.file ≡ stream.file) × ExplainsNamingAnew settings opened.source.value fault.reason

  -- why a command on two tables gives no answer: a stream can't be opened; or both are, and neither headers nor rows are to blame, or what is said
  -- so of the tables
  abbrev pub ExplainsPair : Form → Content → Stream R → Stream R → (Two S → Type 0) → Fault → Type 0
  ExplainsPair form kind first next explains fault = ExplainsBoth first next fault
      ⊎ ((two : Two S) × OpensFile form Rows first two.first × OpensFile form kind next two.next
      × (IsApartOf (files_of two) fault ⊎ explains two))

  -- the same where columns of the first one get other names
  abbrev pub ExplainsPairAnew : Settings → Content → Stream R → Stream R → (Two S → Type 0) → Fault → Type 0
  ExplainsPairAnew settings kind first next explains fault = ExplainsBoth first next fault
      ⊎ ((IsOk next.reader × ExplainsAnew settings first fault)
      ⊎ ((two : Two S) × OpensAnew settings first two.first × OpensFile settings.form kind next two.next
      × (IsApartOf (files_of two) fault ⊎ explains two)))

  -- why `apply` gives no answer
  abbrev pub ExplainsApply : Settings → Direction → Stream R → Stream R → Fault → Type 0
  ExplainsApply settings direction old changes fault = ExplainsPairAnew settings Changes old changes (ExplainsTurned left settings direction fault) fault

  -- why `merge` gives no answer
  abbrev pub ExplainsMerge : Settings → Stream R → Stream R → Stream R → Fault → Type 0
  ExplainsMerge settings base ours theirs fault = ((fault.file ≡ base.file) × ExplainsOpening base.reader fault.reason)
      ⊎ ((IsOk base.reader × ExplainsBoth ours theirs fault)
      ⊎ ((IsOk ours.reader × IsOk theirs.reader × ExplainsAnew settings base fault)
      ⊎ ((opened : Opened S) × (sides : Two S) × OpensAnew settings base opened
      × OpensFile settings.form Rows ours sides.first × OpensFile settings.form Rows theirs sides.next
      × (IsApartOf (files_of_three opened sides) fault ⊎ ExplainsMerged left settings opened sides fault))))

module _ {R : Type 0} (remaining : R → Option (List ℕ)) where
  -- why `diff` gives no answer
  abbrev pub ExplainsDiff : Settings → Comparing → Stream R → Stream R → Fault → Type 0
  ExplainsDiff settings how old new fault = ExplainsPairAnew remaining remaining settings Rows old new (ExplainsCompared remaining settings how fault) fault

  -- why `diff` of tables that have no key gives none
  abbrev pub ExplainsRowDiff : Form → Stream R → Stream R → Fault → Type 0
  ExplainsRowDiff form old new fault = ExplainsPair remaining remaining form Rows old new (ExplainsKeyless remaining fault) fault

  -- why `join` gives no answer
  abbrev pub ExplainsJoin : Settings → Stream R → Stream R → Fault → Type 0
  ExplainsJoin settings left right fault = ExplainsPair remaining remaining settings.form Rows left right (ExplainsJoined remaining settings fault) fault
