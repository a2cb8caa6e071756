-- Why a table is not read: for want of memory, by an error of the file or its quotes, or by a rule that the key or a row breaks.
use Rattle.std.specs.Prelude.{◌≡◌, ◌≢◌, ◌≤◌, ◌⊎◌, ◌++◌, ℕ, List, [], ◌∷◌, length, Option, None, Some, Result, IsOk, Ok, Err, ⊤}
use Rattle.std.specs.Borrow.{Bor}
use Rattle.csv.specs.Records.{field_at}
use Rattle.keyed_faults.specs.Outside.{IsApart}
use Rattle.keyed_faults.specs.declared.fault.Fault.{Fault}
use Rattle.keyed_faults.specs.declared.fault.Reason.{Reason}
use Rattle.keyed_faults.specs.declared.fault.Reason.TheVariants as reason
use Rattle.keyed_requests.specs.declared.request.Lengths.{Lengths}
use Rattle.keyed_requests.specs.declared.request.Lengths.TheVariants as lengths
use Rattle.keyed_requests.specs.declared.request.Settings.{Settings}
use Rattle.keyed_columns.specs.CellsUnder.{cell_at}
use Rattle.keyed_columns.specs.KeyColumns.{ExplainsKey, ExplainsRenaming}
use Rattle.keyed_columns.specs.KeyText.{AreNamesIn}
use Rattle.keyed_columns.specs.declared.key_record.KeyNames.{KeyNames}
use Rattle.keyed_columns.specs.declared.columns.Columns.{Columns}
use Rattle.keyed_files.specs.Opening.{IsRenamed}
use Rattle.keyed_files.specs.Reading.{HasGiven, last_record}
use Rattle.keyed_files.specs.declared.opened.Stream.{Stream}
use Rattle.keyed_files.specs.declared.source.Source.{Source}

-- a row has as many cells as it may have, where the first one has so many: as many, or where rows may be short none after these that is
-- not empty
abbrev pub FitsCount : Lengths → ℕ → List (List ℕ) → Type 0
FitsCount lengths.Equal count fields = length fields ≡ count
FitsCount lengths.Ragged count fields = (place : ℕ) → count ≤ place → cell_at fields (Some place) ≡ []

-- and a row has not
abbrev pub BreaksCount : Lengths → ℕ → List (List ℕ) → Type 0
BreaksCount lengths.Equal count fields = length fields ≢ count
BreaksCount lengths.Ragged count fields = (place : ℕ) × (count ≤ place) × (cell_at fields (Some place) ≢ [])

-- the row that was read last has another number of cells than it may have, and these numbers are told
abbrev pub IsWrongCount : {R : Type 0} → Source R → Reason → Type 0
IsWrongCount source (reason.CellCount line expected found) = BreaksCount source.lengths source.count (last_record source)
    × (expected ≡ source.count) × (found ≡ length (last_record source))
IsWrongCount source _ = ⊥

-- rows may have as many cells as the first one, which was read last, or by the rule on short rows fewer
abbrev pub CountsBy : {R : Type 0} → Lengths → Source R → Type 0
CountsBy lengths source = (source.lengths ≡ lengths) × (source.count ≡ length (last_record source))

-- that is as it was
abbrev pub SameCount : {R : Type 0} → Source R → Source R → Type 0
SameCount old new = (new.lengths ≡ old.lengths) × (new.count ≡ old.count)

-- why the next row of a source is not read
abbrev pub ExplainsRow : {R : Type 0} → Source R → Reason → Type 0
ExplainsRow source (reason.CellCount line expected found) = IsWrongCount source (reason.CellCount line expected found)
ExplainsRow source reason.NoMemory = ⊤
ExplainsRow source (reason.Io error) = ⊤
ExplainsRow source (reason.Quotes line fault) = ⊤
ExplainsRow source _ = ⊥

-- why the next row of changes is not: also since its first cell is no sign
abbrev pub ExplainsSigned : {R : Type 0} → Source R → Reason → Type 0
ExplainsSigned source (reason.NoSign line) = (field_at (last_record source) 0 ≢ Some (45 ∷ [])) × (field_at (last_record source) 0 ≢ Some (43 ∷ []))
ExplainsSigned source (reason.CellCount line expected found) = IsWrongCount source (reason.CellCount line expected found)
ExplainsSigned source reason.NoMemory = ⊤
ExplainsSigned source (reason.Io error) = ⊤
ExplainsSigned source (reason.Quotes line fault) = ⊤
ExplainsSigned source _ = ⊥

-- a record on a line begins with no sign
abbrev pub IsNoSign : ℕ → List (List ℕ) → Reason → Type 0
IsNoSign line fields told = (told ≡ reason.NoSign line) × (field_at fields 0 ≢ Some (45 ∷ [])) × (field_at fields 0 ≢ Some (43 ∷ []))

-- a row is to blame, which then is the one that was read last
abbrev pub IsOfRow : Reason → Type 0
IsOfRow (reason.CellCount line expected found) = ⊤
IsOfRow (reason.NoSign line) = ⊤
IsOfRow _ = ⊥

-- why the cells of columns have no places: a name of the key is not that of one column
abbrev pub ExplainsPlaces : {R : Type 0} → Source R → Columns → Reason → Type 0
ExplainsPlaces source columns = ExplainsKey source.header.spelling.spelled source.header.names source.header.gone columns.key

-- why columns of a source do not get the names that a text gives: it does not give names, or these can't be given
abbrev pub ExplainsNewNames : {R : Type 0} → Option (Bor (List ℕ)) → Source R → Reason → Type 0
ExplainsNewNames None source told = ⊥
ExplainsNewNames (Some text) source told = IsApart told ⊎ ((names : KeyNames) × AreNamesIn text.now names.first names.others
    × ExplainsRenaming source.header.spelling.spelled source.header.names source.header.gone names told)

-- the same of the names of the key, and then of those that are renamed
abbrev pub ExplainsNamingAnew : {R : Type 0} → Settings → Source R → Reason → Type 0
ExplainsNamingAnew {R} settings source told = ExplainsNewNames settings.key source told
    ⊎ ((between : Source R) × IsRenamed settings.key source between × ExplainsNewNames settings.renames between told)

-- why the header of a stream is not read: there is no reader, and this is why, or the header is not to blame
abbrev pub ExplainsOpening : {R : Type 0} → Result R Reason → Reason → Type 0
ExplainsOpening (Ok reader) told = IsApart told
ExplainsOpening (Err why) told = told ≡ why

-- the same of one of two streams, which is named: of the next one only where the first one has a reader
abbrev pub ExplainsBoth : {R : Type 0} → Stream R → Stream R → Fault → Type 0
ExplainsBoth first next fault = ((fault.file ≡ first.file) × ExplainsOpening first.reader fault.reason)
    ⊎ (IsOk first.reader × (fault.file ≡ next.file) × ExplainsOpening next.reader fault.reason)

module _ {R : Type 0} (remaining : R → Option (List ℕ)) where
  -- after records that a source of a text had given come more, and then the one that was read last
  abbrev pub ComesTo : Source R → Source R → Type 0
  ComesTo source now = (d : ℕ) (c : Option ℕ) (text : List ℕ) (given : List (List (List ℕ))) → HasGiven d c remaining text given source
      → (records : List (List (List ℕ))) × HasGiven d c remaining text ((given ++ records) ++ last_record now ∷ []) now

  -- why the rows that a source has left are not read: by one that comes of its text, which breaks the rule, or for want of memory, by an error of
  -- the file or its quotes
  pub record ExplainsRows (source : Source R) (told : Reason) : Type 0 where
    pub now : Source R
    pub rule : SameCount source now
    pub row : ExplainsRow now told ⊎ ExplainsSigned now told
    pub comes : IsOfRow told → ComesTo source now
