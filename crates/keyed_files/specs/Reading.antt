-- What a source of rows has given of a known text, and what it gives next.
use Rattle.std.specs.Prelude.{◌≡◌, ◌==◌, ◌&&◌, ℕ, List, [], ◌∷◌, ◌++◌, Bool, true, false, Option, Some, None, drop, is_none, if◌then◌else◌, map, ⊤}
use Rattle.csv.specs.Records.{field_at, fields_of}
use Rattle.keyed_rows.specs.declared.row.ReadRow.{ReadRow}
use Rattle.keyed_text.specs.Streams.{HasRead}
use Rattle.keyed_text.specs.Texts.{AreRows}
use Rattle.keyed_requests.specs.FormBytes.{comment_of, delimiter_of}
use Rattle.keyed_requests.specs.declared.request.Form.{Form}
use Rattle.keyed_columns.specs.Headers.{HeaderOf, NamesOf}
use Rattle.keyed_columns.specs.CellsUnder.{cell_at, row_under}
use Rattle.keyed_columns.specs.Spelled.{SpelledBy}
use Rattle.keyed_columns.specs.declared.columns.Columns.{Columns}
use Rattle.keyed_columns.specs.declared.content.Content.{Content}
use Rattle.keyed_columns.specs.declared.content.Content.TheVariants as content
use Rattle.keyed_files.specs.Lines.{checked_left, where_strict}
use Rattle.keyed_files.specs.CellPlaces.{ArePlaces}
use Rattle.keyed_files.specs.Rows.{shown_sign}
use Rattle.keyed_files.specs.declared.sign.Sign.{Sign}
use Rattle.keyed_files.specs.declared.sign.SignedRow.{SignedRow}
use Rattle.keyed_files.specs.declared.source.Next.{Next}
use Rattle.keyed_files.specs.declared.source.Next.TheVariants as next
use Rattle.keyed_files.specs.declared.source.Places.{Places}
use Rattle.keyed_files.specs.declared.source.Source.{Source}

-- the text whose lines are read of a file; where lines are passed over, no clause says which
abbrev pub text_lined : Form → Option (List ℕ) → Option (List ℕ)
text_lined form known = if is_none form.reading.comment && (form.reading.skipped == 0) then known else None

-- the text that is read of a file; where quotes need not be in order, no clause says what is made of them
abbrev pub text_read : Form → Option (List ℕ) → Option (List ℕ)
text_read form known = where_strict form.reading.quotes (text_lined form known)

-- the cells of the record that was read last
abbrev pub last_record : {R : Type 0} → Source R → List (List ℕ)
last_record source = fields_of source.last

module _ {R : Type 0} (d : ℕ) (c : Option ℕ) (remaining : R → Option (List ℕ)) (text : List ℕ) (rows : List (List (List ℕ))) (source : Source R) where
  -- a source that is in this state has given these records of a text
  abbrev pub HasGivenIn : Next → Type 0
  HasGivenIn next.Kept = HasRead d c (checked_left remaining) text (rows ++ (last_record source ∷ [])) source.reader
  HasGivenIn next.Read = HasRead d c (checked_left remaining) text rows source.reader
  HasGivenIn next.Ended = AreRows d c text rows

  -- a source of a text has given these records, and gives the next one at its next read
  abbrev pub HasGiven : Type 0
  HasGiven = HasGivenIn source.next

-- the next step of a source: of each text of which it had given some records, it gave the next one, or those were all
abbrev pub GivesRecord : {R : Type 0} → (R → Option (List ℕ)) → Source R → Source R → Bool → Type 0
GivesRecord remaining old new true = (d : ℕ) (c : Option ℕ) (text : List ℕ) (rows : List (List (List ℕ)))
    → HasGiven d c remaining text rows old → HasGiven d c remaining text (rows ++ (last_record new ∷ [])) new
GivesRecord remaining old new false = (d : ℕ) (c : Option ℕ) (text : List ℕ) (rows : List (List (List ℕ)))
    → HasGiven d c remaining text rows old → AreRows d c text rows

-- what a row is apart from its line: its key, and its other cells
abbrev pub parts_of : ReadRow → List (List ℕ) × List (List ℕ)
parts_of row = (row.key, row.cells)

-- the key of a record: its cells at the places of the key's columns
abbrev pub key_in : Places → List (List ℕ) → List (List ℕ)
key_in places fields = map (cell_at fields) places.key.items

-- the cells of a record at the places of columns
abbrev pub picked : Places → List (List ℕ) → List (List ℕ) × List (List ℕ)
picked places fields = (key_in places fields, map (cell_at fields) places.rest.items)

-- a row has those cells
abbrev pub IsPicked : Places → List (List ℕ) → ReadRow → Type 0
IsPicked places fields row = parts_of row ≡ picked places fields

-- a row of changes has them, and the sign that the first cell of the record is
pub record IsSigned (places : Places) (fields : List (List ℕ)) (signed : SignedRow) : Type 0 where
  pub row : IsPicked places fields signed.row
  pub sign : field_at fields 0 ≡ Some (shown_sign signed.sign)

-- the first cell of a record is a sign, where a file has changes
abbrev pub HasSign : Content → List (List ℕ) → Type 0
HasSign content.Rows fields = ⊤
HasSign content.Changes fields = (sign : Sign) × (field_at fields 0 ≡ Some (shown_sign sign))

-- the places of the cells of columns under the header of a source
abbrev pub PlacesOf : {R : Type 0} → Source R → Columns → Places → Type 0
PlacesOf source columns places = ArePlaces source.content source.header.names columns places

-- what a source gives first, of a file that has a row or none
abbrev pub next_of : Bool → Bool → Next
next_of false has_header = next.Ended
next_of true true = next.Read
next_of true false = next.Kept

-- the names of the columns of records: those of the first one if it is a header, and else a number for each of its cells; with no record
-- there is no name
abbrev pub HeadedBy : Bool → Content → List (List (List ℕ)) → List (List ℕ) → Type 0
HeadedBy has_header kind [] names = names ≡ []
HeadedBy has_header kind (fields ∷ records) names = HeaderOf has_header kind true fields names

-- the header is the first record of a text, if there is to be one, and else the names fit all records that the text has; a text with no
-- record has no name
abbrev pub IsHeader : Form → Content → List ℕ → List (List ℕ) → Bool → List (List (List ℕ)) → Type 0
IsHeader form kind text names true [] = AreRows (delimiter_of form) (comment_of form) text [] × (names ≡ [])
IsHeader form kind text names true (fields ∷ []) = NamesOf kind fields names
IsHeader form kind text names true (fields ∷ more ∷ rest) = ⊥
IsHeader form kind text names false [] = (records : List (List (List ℕ))) → AreRows (delimiter_of form) (comment_of form) text records
    → HeadedBy false kind records names
IsHeader form kind text names false (fields ∷ rest) = ⊥

-- a source of a text with this header is open: its header is read, and the records under it come next
pub record IsOpen {R : Type 0} (form : Form) (kind : Content) (remaining : R → Option (List ℕ)) (text : List ℕ) (names : List (List ℕ)) (source : Source R) : Type 0 where
  pub content : source.content ≡ kind
  pub first : List (List (List ℕ))
  pub header : IsHeader form kind text names form.has_header first
  pub given : HasGiven (delimiter_of form) (comment_of form) remaining text first source
  pub named : source.header.spelling.names ≡ names
  pub spelled : SpelledBy form.has_header kind first source.header.spelling.spelled

-- rows that stand after others are those of records at the places of columns
pub record ReadBehind (places : Places) (old new : List ReadRow) (records : List (List (List ℕ))) : Type 0 where
  pub more : List ReadRow
  pub rows : new ≡ old ++ more
  pub parts : map parts_of more ≡ map (picked places) records

-- rows were read of a source: of each text of which it had given some records, it gave more, and these rows stand after others
abbrev pub ReadsOn : {R : Type 0} → (R → Option (List ℕ)) → Places → Source R → Source R → List ReadRow → List ReadRow → Type 0
ReadsOn remaining places source now old new = (d : ℕ) (c : Option ℕ) (text : List ℕ) (given : List (List (List ℕ)))
    → HasGiven d c remaining text given source
    → (records : List (List (List ℕ))) × HasGiven d c remaining text (given ++ records) now × ReadBehind places old new records

-- a source is read to the end: after the records that it had given, these come, and no more
abbrev pub ReadsRest : {R : Type 0} → (R → Option (List ℕ)) → Places → Source R → List ReadRow → List ReadRow → Type 0
ReadsRest remaining places source old new = (d : ℕ) (c : Option ℕ) (text : List ℕ) (given : List (List (List ℕ)))
    → HasGiven d c remaining text given source
    → (records : List (List (List ℕ))) × AreRows d c text (given ++ records) × ReadBehind places old new records

-- the records after the header, if there is one
abbrev pub behind_header : Bool → List (List (List ℕ)) → List (List (List ℕ))
behind_header true records = drop 1 records
behind_header false records = records

-- what a text says as a table: the names of its columns in its header, or numbers where it has none, and a row for each record after the
-- header, of its cells under the names by which they are read
abbrev pub IsTable : Form → Content → List ℕ → List (List ℕ) → List (List ℕ) → Columns → List ReadRow → Type 0
IsTable form kind text header names columns rows = (records : List (List (List ℕ))) × AreRows (delimiter_of form) (comment_of form) text records
    × HeadedBy form.has_header kind records header × (map parts_of rows ≡ map (row_under kind names columns) (behind_header form.has_header records))

-- after rows that were there come those of the table that a text says
abbrev pub ReadsRows : {R : Type 0} → (R → Option (List ℕ)) → Columns → Source R → List ReadRow → List ReadRow → Type 0
ReadsRows remaining columns source old new = (form : Form) (kind : Content) (text : List ℕ) (header : List (List ℕ))
    → IsOpen form kind remaining text header source
    → (more : List ReadRow) × (new ≡ old ++ more) × IsTable form kind text header source.header.names columns more
