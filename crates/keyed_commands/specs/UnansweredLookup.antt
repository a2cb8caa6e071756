-- Why `lookup` gives no answer.
use Rattle.std.specs.Prelude.{◌≡◌, ◌++◌, ◌⊎◌, ◌∷◌, ℕ, List, [], Option, Some, ⊤, map}
use Rattle.std.specs.Map.{lookup}
use Rattle.keyed_rows.specs.declared.row.ReadRow.{ReadRow}
use Rattle.keyed_faults.specs.declared.fault.Fault.{Fault}
use Rattle.keyed_faults.specs.declared.fault.Reason.{Reason}
use Rattle.keyed_faults.specs.declared.fault.Reason.TheVariants as reason
use Rattle.keyed_requests.specs.declared.request.Layout.{Layout}
use Rattle.keyed_columns.specs.Keys.{AreJoinColumns}
use Rattle.keyed_columns.specs.declared.columns.Columns.{Columns}
use Rattle.keyed_columns.specs.declared.columns.JoinColumns.{JoinColumns}
use Rattle.keyed_columns.specs.declared.content.Content.TheVariants.{Rows}
use Rattle.keyed_files.specs.Explained.{ExplainsPlaces, ExplainsRows, SameCount}
use Rattle.keyed_files.specs.Opening.{first_header, next_header}
use Rattle.keyed_files.specs.Reading.{HasGiven, PlacesOf, ReadsOn}
use Rattle.keyed_files.specs.declared.opened.Opened.{Opened}
use Rattle.keyed_files.specs.declared.opened.Stream.{Stream}
use Rattle.keyed_files.specs.declared.opened.Two.{Two}
use Rattle.keyed_files.specs.declared.source.Places.{Places}
use Rattle.keyed_files.specs.declared.source.Source.{Source}
use Rattle.keyed_jobs.specs.Unread.{ExplainsUnread}
use Rattle.keyed_jobs.specs.Written.{IsOfOutput}
use Rattle.keyed_commands.specs.LookupAnswers.{key_eq}
use Rattle.keyed_commands.specs.Unanswered.{ExplainsPair, IsApartOf}

-- the line of the first of these rows with a key, if there is one
abbrev pub line_under : List ReadRow → List (List ℕ) → Option ℕ
line_under rows key = lookup (key_eq key) (map (λ row. (row.key, row.line)) rows)

-- why a row is not held with others: one of them has its key, and the lines of both are told; or memory was refused
abbrev pub IsRepeated : List ReadRow → ReadRow → Reason → Type 0
IsRepeated rows row (reason.RepeatedRight repeated) = (repeated.key ≡ row.key) × (repeated.second ≡ row.line) × (line_under rows row.key ≡ Some repeated.first)
IsRepeated rows row reason.NoMemory = ⊤
IsRepeated rows row _ = ⊥

module _ {R : Type 0} (remaining : R → Option (List ℕ)) where
  -- records of a source are read, and its rows may have as many cells as before
  pub record GoesOn (source now : Source R) : Type 0 where
    pub rule : SameCount source now
    pub gives : (d : ℕ) (c : Option ℕ) (text : List ℕ) (given : List (List (List ℕ))) → HasGiven d c remaining text given source
        → (records : List (List (List ℕ))) × HasGiven d c remaining text (given ++ records) now

  -- why the rows of a table are not held, by the places of its columns: they are not read, or the key of one stands among those before it
  abbrev pub ExplainsHeld : Places → Source R → Reason → Type 0
  ExplainsHeld places source told = ExplainsRows remaining source told
      ⊎ ((now : Source R) × (rows : List ReadRow) × (row : ReadRow) × ReadsOn remaining places source now [] (rows ++ row ∷ []) × IsRepeated rows row told)

  -- the same under columns, which may have no places
  abbrev pub ExplainsFound : Columns → Source R → Reason → Type 0
  ExplainsFound columns source told = ExplainsPlaces source columns told
      ⊎ ((places : Places) × PlacesOf source columns places × ExplainsHeld places source told)

  -- why the rows of the left table are not looked up: the output is not written, neither its header nor its rows are to blame, or a row of it
  abbrev pub ExplainsLeft : Opened R → Fault → Type 0
  ExplainsLeft opened fault = IsOfOutput fault ⊎ (IsApartOf (opened.file ∷ []) fault
      ⊎ ((fault.file ≡ opened.file) × ExplainsRows remaining opened.source.value fault.reason))

  -- why rows of a left table are not looked up in a right one
  abbrev pub ExplainsSides : Layout → Fault → Two R → Type 0
  ExplainsSides layout fault sides = IsOfOutput fault ⊎ ((columns : JoinColumns) × AreJoinColumns layout.key (first_header sides) (next_header sides) columns
      × (((fault.file ≡ sides.first.file) × ExplainsUnread remaining columns.left sides.first.source.value fault.reason)
      ⊎ ((fault.file ≡ sides.next.file) × ExplainsFound columns.right sides.next.source.value fault.reason)))

  -- why `lookup` gives no answer
  abbrev pub ExplainsLookup : Layout → Stream R → Stream R → Fault → Type 0
  ExplainsLookup layout left right fault = ExplainsPair remaining remaining layout.form Rows left right (ExplainsSides layout fault) fault
