-- Why a table is not read of a file, and why rows are not gathered.
use Rattle.std.specs.Prelude.{◌≡◌, ◌⊎◌, ℕ, Bool, false, List, [], Option, ⊤}
use Rattle.keyed_rows.specs.declared.row.ReadRow.{ReadRow}
use Rattle.keyed_faults.specs.declared.fault.Fault.{Fault}
use Rattle.keyed_faults.specs.declared.fault.Reason.{Reason}
use Rattle.keyed_faults.specs.declared.fault.Reason.TheVariants as reason
use Rattle.keyed_columns.specs.declared.columns.Columns.{Columns}
use Rattle.keyed_files.specs.Explained.{ExplainsPlaces, ExplainsRows}
use Rattle.keyed_files.specs.Reading.{ReadsRows}
use Rattle.keyed_files.specs.declared.opened.Two.{Two}
use Rattle.keyed_files.specs.declared.source.Source.{Source}
use Rattle.keyed_tables.specs.Repeated.{IsFirstRepeat}
use Rattle.keyed_jobs.specs.Answers.{key_cmp}
use Rattle.keyed_jobs.specs.ChangesRead.{PartsChanges}

-- why rows are not gathered by key: rows with one key are no group, and this is the least key that stands twice, with the lines of its first two
-- rows; or memory was refused
abbrev pub ExplainsGathering : Bool → List ReadRow → Reason → Type 0
ExplainsGathering groups rows (reason.RepeatedKey repeated) = (groups ≡ false)
    × IsFirstRepeat key_cmp (λ row. row.key) (λ row. row.line) rows repeated.key repeated.first repeated.second
ExplainsGathering groups rows reason.NoMemory = ⊤
ExplainsGathering groups rows _ = ⊥

module _ {R : Type 0} (remaining : R → Option (List ℕ)) where
  -- why the rows of a source are not read: a name of the key is not that of one column, or a row is to blame
  abbrev pub ExplainsUnread : Columns → Source R → Reason → Type 0
  ExplainsUnread columns source told = ExplainsPlaces source columns told ⊎ ExplainsRows remaining source told

  -- why a source gives no table: its rows are not read, or those that it has are not gathered
  abbrev pub ExplainsTable : Bool → Columns → Source R → Reason → Type 0
  ExplainsTable groups columns source told = ExplainsUnread columns source told
      ⊎ ((rows : List ReadRow) × ReadsRows remaining columns source [] rows × ExplainsGathering groups rows told)

  -- the same of changes, of which the rows that go and those that come are gathered apart
  abbrev pub ExplainsChanges : Bool → Columns → Source R → Reason → Type 0
  ExplainsChanges groups columns source told = ExplainsUnread columns source told
      ⊎ ((gone come : List ReadRow) × (before after : Option (List (List (List ℕ)))) × PartsChanges remaining columns source [] gone [] come before after
      × (ExplainsGathering groups gone told ⊎ ExplainsGathering groups come told))

  -- a fault of one of two tables is told of that one
  abbrev pub ExplainsTables : Bool → Columns → Columns → Two R → Fault → Type 0
  ExplainsTables groups first next two fault = ((fault.file ≡ two.first.file) × ExplainsTable groups first two.first.source.value fault.reason)
      ⊎ ((fault.file ≡ two.next.file) × ExplainsTable groups next two.next.source.value fault.reason)

  -- or of a table and of changes
  abbrev pub ExplainsInputs : Bool → Columns → Two R → Fault → Type 0
  ExplainsInputs groups columns two fault = ((fault.file ≡ two.first.file) × ExplainsTable groups columns two.first.source.value fault.reason)
      ⊎ ((fault.file ≡ two.next.file) × ExplainsChanges groups columns two.next.source.value fault.reason)
