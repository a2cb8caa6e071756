-- Why `overlay` gives no answer.
use Rattle.std.specs.Prelude.{◌≡◌, ◌⊎◌, ℕ, Bool, IsOk, List, [], ◌∷◌, Option, None, codes, map}
use Rattle.std.specs.Borrow.{Bor}
use Rattle.std.specs.List.{AllByRecursion}
use Rattle.keyed_faults.specs.Outside.{IsApart}
use Rattle.keyed_faults.specs.declared.fault.Fault.{Fault}
use Rattle.keyed_requests.specs.declared.request.Form.{Form}
use Rattle.keyed_requests.specs.declared.request.Settings.{Settings}
use Rattle.keyed_columns.specs.Keys.{AreColumnsBy}
use Rattle.keyed_columns.specs.declared.columns.Columns.{Columns}
use Rattle.keyed_columns.specs.declared.content.Content.TheVariants.{Rows}
use Rattle.keyed_files.specs.Explained.{ExplainsNewNames, ExplainsOpening}
use Rattle.keyed_files.specs.declared.opened.Opened.{Opened}
use Rattle.keyed_files.specs.declared.opened.Stream.{Stream}
use Rattle.keyed_jobs.specs.NotedStyles.{watched_left}
use Rattle.keyed_jobs.specs.Unread.{ExplainsTable}
use Rattle.keyed_jobs.specs.declared.styles.Watched.{Watched}
use Rattle.keyed_commands.specs.OverlayAnswers.{AreLayers}
use Rattle.keyed_commands.specs.Unanswered.{OpensFile}

-- tables that are opened have the names of their streams
abbrev pub HaveFiles : {R S : Type 0} → List (Stream R) → List (Opened S) → Type 0
HaveFiles streams opened = map (λ table. table.file) opened ≡ map (λ stream. stream.file) streams

-- streams have readers
abbrev pub AreReady : {R : Type 0} → List (Stream R) → Type 0
AreReady streams = AllByRecursion (λ stream. IsOk stream.reader) streams

-- what is told of several tables, and not of one of them, is told of the first one, or of the standard input where there is none
abbrev pub IsFirstFile : {S : Type 0} → List (Opened S) → Bor (List ℕ) → Type 0
IsFirstFile [] file = file.now ≡ codes "-"
IsFirstFile (table ∷ tables) file = file ≡ table.file

module _ {R : Type 0} (remaining : R → Option (List ℕ)) where
  -- why a table of several is not opened under the names of its key: its stream can't be, or these are not names of its columns
  abbrev pub ExplainsLayer : Form → Option (Bor (List ℕ)) → Stream R → Fault → Type 0
  ExplainsLayer form key stream fault = (fault.file ≡ stream.file) × (ExplainsOpening stream.reader fault.reason
      ⊎ ((opened : Opened (Watched R)) × OpensFile remaining (watched_left remaining) form Rows stream opened
      × ExplainsNewNames key opened.source.value fault.reason))

  -- why one of several is not; the first one alone has names of its own for the key, where it is set
  abbrev pub ExplainsLayers : Form → Option (Bor (List ℕ)) → List (Stream R) → Fault → Type 0
  ExplainsLayers form key [] fault = ⊥
  ExplainsLayers form key (stream ∷ streams) fault = ExplainsLayer form key stream fault ⊎ (IsOk stream.reader × ExplainsLayers form None streams fault)

  -- why the rows of a table are not read and laid over others; or neither its header nor its rows are to blame
  abbrev pub ExplainsOne : Bool → Columns → Opened (Watched R) → Fault → Type 0
  ExplainsOne groups columns table fault = (fault.file ≡ table.file)
      × (IsApart fault.reason ⊎ ExplainsTable (watched_left remaining) groups columns table.source.value fault.reason)

  -- and those of one of several
  abbrev pub ExplainsLaid : Bool → Columns → List (Opened (Watched R)) → Fault → Type 0
  ExplainsLaid groups columns [] fault = ⊥
  ExplainsLaid groups columns (table ∷ tables) fault = ExplainsOne groups columns table fault ⊎ ExplainsLaid groups columns tables fault

  -- and under the columns of all
  abbrev pub ExplainsUnder : Settings → List (Opened (Watched R)) → Fault → Type 0
  ExplainsUnder settings tables fault = (columns : Columns) × AreColumnsBy settings.key (map (λ table. table.source.value.header.names) tables)
      (map (λ table. table.source.value.header.names) tables) columns
      × ExplainsLaid settings.groups columns tables fault

  -- why `overlay` gives no answer
  abbrev pub ExplainsOverlay : Settings → List (Stream R) → Fault → Type 0
  ExplainsOverlay settings streams fault = ExplainsLayers settings.form settings.key streams fault
      ⊎ ((tables : List (Opened (Watched R))) × AreReady streams × AreLayers remaining settings.form settings.key streams tables
      × HaveFiles streams tables × ((IsApart fault.reason × IsFirstFile tables fault.file) ⊎ ExplainsUnder settings tables fault))
