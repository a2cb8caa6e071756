-- Why `diff` and `join` of tables whose keys are strictly increasing, which they read part by part, do not come to the end; and of which file that is
-- told.
use Rattle.std.specs.Prelude.{◌≡◌, ◌++◌, ◌⊎◌, ◌∷◌, ℕ, List, [], Option, IsOk, false}
use Rattle.std.specs.Borrow.{Bor}
use Rattle.keyed_rows.specs.declared.row.ReadRow.{ReadRow}
use Rattle.keyed_faults.specs.Outside.{IsApart}
use Rattle.keyed_faults.specs.declared.fault.Fault.{Fault}
use Rattle.keyed_faults.specs.declared.fault.Reason.{Reason}
use Rattle.keyed_requests.specs.declared.request.Layout.{Layout}
use Rattle.keyed_requests.specs.declared.request.SortedChanges.{SortedChanges}
use Rattle.keyed_requests.specs.declared.request.SortedChanges.TheVariants as changes
use Rattle.keyed_columns.specs.Keys.{AreChangeColumns, AreJoinColumns}
use Rattle.keyed_columns.specs.declared.columns.Columns.{Columns}
use Rattle.keyed_columns.specs.declared.columns.JoinColumns.{JoinColumns}
use Rattle.keyed_columns.specs.declared.content.Content.TheVariants.{Rows}
use Rattle.keyed_files.specs.Explained.{ExplainsBoth, ExplainsNewNames, ExplainsPlaces}
use Rattle.keyed_files.specs.Opening.{IsRenamed, first_header, headers_of, next_header}
use Rattle.keyed_files.specs.Parts.{ExplainsNext, ExplainsPart, Fills, HasParts}
use Rattle.keyed_files.specs.Reading.{HasGiven, PlacesOf}
use Rattle.keyed_files.specs.declared.opened.Opened.{Opened}
use Rattle.keyed_files.specs.declared.opened.Stream.{Stream}
use Rattle.keyed_files.specs.declared.opened.Two.{Two}
use Rattle.keyed_files.specs.declared.parts.Parts.{Parts}
use Rattle.keyed_files.specs.declared.source.Source.{Source}
use Rattle.keyed_jobs.specs.Unread.{ExplainsGathering}
use Rattle.keyed_jobs.specs.Written.{IsOfOutput}
use Rattle.keyed_commands.specs.PartAnswers.{IsByKey, on_later}
use Rattle.keyed_commands.specs.Reported.{AreComparedColumns}
use Rattle.keyed_commands.specs.SortedParts.{HasTaken, HasWritten, IsFresh}
use Rattle.keyed_commands.specs.Unanswered.{ExplainsPair, IsApartOf, OpensFile, files_of}
use Rattle.keyed_commands.specs.declared.sorted.PartWritten.{PartWritten}
use Rattle.keyed_commands.specs.declared.sorted.TwoParts.{TwoParts}
use Rattle.keyed_commands.specs.declared.sorted.Work.{Work}

-- what is said of tables is not written: neither their headers nor their rows are to blame, the output is not written, or there is this cause
abbrev pub ExplainsWriting : List (Bor (List ℕ)) → Type 0 → Fault → Type 0
ExplainsWriting files cause fault = IsApartOf files fault ⊎ (IsOfOutput fault ⊎ cause)

module _ {R : Type 0} where
  -- the files of two tables that are read part by part
  abbrev pub files_in : TwoParts R → List (Bor (List ℕ))
  files_in two = two.left.file ∷ two.right.file ∷ []

  -- a fault of one of two tables is told of that one
  abbrev pub IsOfOne : (Parts R → Reason → Type 0) → TwoParts R → Fault → Type 0
  IsOfOne explains two fault = ((fault.file ≡ two.left.file) × explains two.left fault.reason)
      ⊎ ((fault.file ≡ two.right.file) × explains two.right fault.reason)

  -- why rows that wait are not taken: neither these nor the header are to blame, or the first ones are not gathered by key
  abbrev pub ExplainsTaking : Parts R → Reason → Type 0
  ExplainsTaking parts told = IsApart told
      ⊎ ((rows others : List ReadRow) × (parts.waiting.items ≡ rows ++ others) × ExplainsGathering false rows told)

-- the columns of `diff` of such tables: as CSV those of the changes, and as JSON those that are compared
abbrev pub AreSortedColumns : {R : Type 0} → Layout → SortedChanges → Two R → Columns → Type 0
AreSortedColumns layout changes.Csv versions = AreChangeColumns layout.key (first_header versions) (next_header versions)
AreSortedColumns layout (changes.Json columns sameness) versions = AreComparedColumns columns layout.key (headers_of versions)

module _ {R : Type 0} (remaining : R → Option (List ℕ)) where
  -- why the next rows of a table are not taken: the next one is not read, or its key is not greater than the last one; or some are read, and rows
  -- that wait then are not taken
  abbrev pub ExplainsTakingNext : Parts R → Reason → Type 0
  ExplainsTakingNext parts told = ExplainsPart remaining parts told ⊎ ((read : Parts R) × Fills remaining parts read × ExplainsTaking read told)

  -- why the rows of a table are not all read, of which none was read at the start: some were, and the next one is not, or its key is not greater than
  -- the last one
  pub record ExplainsLater (start : Parts R) (told : Reason) : Type 0 where
    pub now : Parts R
    pub taken : List ReadRow
    pub read : HasTaken remaining start now taken
    pub going : now.is_ended ≡ false
    pub next : ExplainsNext remaining now told

  -- why what is said of two tables, of which no row is taken yet, is not written
  abbrev pub ExplainsParts : TwoParts R → Fault → Type 0
  ExplainsParts start fault = ExplainsWriting (files_in start) (IsOfOne ExplainsLater start fault) fault

  -- whatever was written of two tables since these stood at some start, why what is said of the parts after that is not written is why what is said of
  -- the tables is not
  abbrev pub ExplainsRest : Work → TwoParts R → Option (List ℕ) → PartWritten → Fault → Type 0
  ExplainsRest later mid between first fault = (work : Work) (start : TwoParts R) (before : Option (List ℕ)) → on_later work ≡ later → IsByKey work
      → HasWritten remaining work start mid before between first → ExplainsParts start fault

  -- no row of a source is read yet under these columns
  pub record IsUnread (columns : Columns) (source : Source R) (start : Parts R) : Type 0 where
    pub same : start.source.value ≡ source
    pub places : PlacesOf source columns start.places
    pub fresh : IsFresh start
    pub begins : (d : ℕ) (c : Option ℕ) (text : List ℕ) (given : List (List (List ℕ))) → HasGiven d c remaining text given source
        → HasParts remaining d c text given [] start

  -- why a source is not read to its end: a name of the key is not that of one column, or a row is to blame
  abbrev pub ExplainsRising : Columns → Source R → Reason → Type 0
  ExplainsRising columns source told = ExplainsPlaces source columns told
      ⊎ ((start : Parts R) × IsUnread columns source start × ExplainsLater start told)

  -- a fault of one of two tables is told of that one
  abbrev pub ExplainsRisingRows : Columns → Columns → Two R → Fault → Type 0
  ExplainsRisingRows first next two fault = ((fault.file ≡ two.first.file) × ExplainsRising first two.first.source.value fault.reason)
      ⊎ ((fault.file ≡ two.next.file) × ExplainsRising next two.next.source.value fault.reason)

  -- why what is said of two tables is not written
  abbrev pub ExplainsRisingTables : Columns → Columns → Two R → Fault → Type 0
  ExplainsRisingTables first next two fault = ExplainsWriting (files_of two) (ExplainsRisingRows first next two fault) fault

  -- the same of two versions of a table, under columns of this kind
  abbrev pub ExplainsRisingVersions : (Columns → Type 0) → Two R → Fault → Type 0
  ExplainsRisingVersions are versions fault =
      ExplainsWriting (files_of versions) ((columns : Columns) × are columns × ExplainsRisingRows columns columns versions fault) fault

  -- the same of the two sides of a join, but for what has no table to blame
  abbrev pub ExplainsRisingSides : Layout → Fault → Two R → Type 0
  ExplainsRisingSides layout fault sides = IsOfOutput fault ⊎ ((columns : JoinColumns)
      × AreJoinColumns layout.key (first_header sides) (next_header sides) columns × ExplainsRisingRows columns.left columns.right sides fault)

  -- the header of a first table is read, and the columns of its key have got the names of the other table since
  pub record OpensRenamed (layout : Layout) (stream : Stream R) (opened : Opened R) : Type 0 where
    pub before : Opened R
    pub opens : OpensFile remaining remaining layout.form Rows stream before
    pub named : opened.file ≡ stream.file
    pub renamed : IsRenamed layout.key before.source.value opened.source.value

  -- why they do not get these
  abbrev pub ExplainsRenamed : Layout → Stream R → Fault → Type 0
  ExplainsRenamed layout stream fault = (opened : Opened R) × OpensFile remaining remaining layout.form Rows stream opened
      × (fault.file ≡ stream.file) × ExplainsNewNames layout.key opened.source.value fault.reason

  -- why `diff` of such tables ends with an error
  abbrev pub ExplainsDiffSorted : Layout → SortedChanges → Stream R → Stream R → Fault → Type 0
  ExplainsDiffSorted layout how old new fault = ExplainsBoth old new fault
      ⊎ ((IsOk new.reader × ExplainsRenamed layout old fault)
      ⊎ ((versions : Two R) × OpensRenamed layout old versions.first × OpensFile remaining remaining layout.form Rows new versions.next
      × ExplainsRisingVersions (AreSortedColumns layout how versions) versions fault))

  -- why `join` of such tables does
  abbrev pub ExplainsJoinSorted : Layout → Stream R → Stream R → Fault → Type 0
  ExplainsJoinSorted layout left right fault = ExplainsPair remaining remaining layout.form Rows left right (ExplainsRisingSides layout fault) fault
