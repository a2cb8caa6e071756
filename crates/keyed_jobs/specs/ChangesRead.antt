-- Changes that are read of a text: each row with its sign, and by key what goes and what comes.
use Rattle.std.specs.Prelude.{◌≡◌, ℕ, Bool, List, [], ◌∷◌, ◌++◌, Option, Some, map}
use Rattle.std.specs.List.{flat_map}
use Rattle.csv.specs.Records.{field_at}
use Rattle.either_or_both.specs.Join.{IsJoin}
use Rattle.keyed_requests.specs.FormBytes.{comment_of, delimiter_of}
use Rattle.keyed_requests.specs.declared.request.Form.{Form}
use Rattle.keyed_columns.specs.CellsUnder.{row_under}
use Rattle.keyed_columns.specs.declared.columns.Columns.{Columns}
use Rattle.keyed_columns.specs.declared.content.Content.TheVariants.{Changes}
use Rattle.keyed_files.specs.Reading.{HasGiven, HeadedBy, IsOpen, behind_header, parts_of, picked}
use Rattle.keyed_files.specs.Rows.{shown_sign}
use Rattle.keyed_files.specs.declared.sign.Sign.{Sign}
use Rattle.keyed_files.specs.declared.sign.Sign.TheVariants.{Minus, Plus}
use Rattle.keyed_files.specs.declared.sign.SignedRow.{SignedRow}
use Rattle.keyed_files.specs.declared.source.Places.{Places}
use Rattle.keyed_files.specs.declared.source.Source.{Source}
use Rattle.keyed_rows.specs.declared.row.ReadRow.{ReadRow}
use Rattle.keyed_text.specs.Texts.{AreRows}
use Rattle.keyed_jobs.specs.Answers.{TableChanges, TableRows, key_cmp}
use Rattle.keyed_jobs.specs.FileOrder.{Keys, noted_with}
use Rattle.keyed_jobs.specs.TablesRead.{Gathers}

-- the row that goes or comes, by its sign
abbrev pub gone_by : Sign → ReadRow → List ReadRow
gone_by Minus row = row ∷ []
gone_by Plus row = []

abbrev pub come_by : Sign → ReadRow → List ReadRow
come_by Minus row = []
come_by Plus row = row ∷ []

-- the rows that go, and those that come
abbrev pub gone_rows : List SignedRow → List ReadRow
gone_rows signed = flat_map (λ s. gone_by s.sign s.row) signed

abbrev pub come_rows : List SignedRow → List ReadRow
come_rows signed = flat_map (λ s. come_by s.sign s.row) signed

-- what a row of changes is apart from its line: its sign as a cell, its key, and its other cells
abbrev pub signed_parts : SignedRow → Option (List ℕ) × (List (List ℕ) × List (List ℕ))
signed_parts signed = (Some (shown_sign signed.sign), parts_of signed.row)

-- the first cell of a record, and its cells at the places of columns
abbrev pub signed_at : Places → List (List ℕ) → Option (List ℕ) × (List (List ℕ) × List (List ℕ))
signed_at places fields = (field_at fields 0, picked places fields)

-- the same under the names of columns
abbrev pub signed_under : List (List ℕ) → Columns → List (List ℕ) → Option (List ℕ) × (List (List ℕ) × List (List ℕ))
signed_under names columns fields = (field_at fields 0, row_under Changes names columns fields)

-- the key of a row of changes
abbrev pub signed_key : SignedRow → List (List ℕ)
signed_key signed = signed.row.key

-- after rows that go and rows that come stand those of records, by their signs, and after keys that are noted those of these rows
pub record PartedBehind (places : Places) (gone new_gone come new_come : List ReadRow) (before after : Option Keys) (records : List (List (List ℕ))) : Type 0 where
  pub signed : List SignedRow
  pub notes : after ≡ noted_with before (map signed_key signed)
  pub goes : new_gone ≡ gone ++ gone_rows signed
  pub comes : new_come ≡ come ++ come_rows signed
  pub parts : map signed_parts signed ≡ map (signed_at places) records

module _ {R : Type 0} (remaining : R → Option (List ℕ)) (places : Places) (source : Source R) where
  -- changes were read of a source: of each text of which it had given some records, it gave more, and these are their rows
  abbrev pub PartsOn : Source R → List ReadRow → List ReadRow → List ReadRow → List ReadRow → Option Keys → Option Keys → Type 0
  PartsOn now gone new_gone come new_come before after = (d : ℕ) (c : Option ℕ) (text : List ℕ) (given : List (List (List ℕ)))
      → HasGiven d c remaining text given source
      → (records : List (List (List ℕ))) × HasGiven d c remaining text (given ++ records) now
      × PartedBehind places gone new_gone come new_come before after records

  -- a source of changes is read to the end
  abbrev pub PartsRest : List ReadRow → List ReadRow → List ReadRow → List ReadRow → Option Keys → Option Keys → Type 0
  PartsRest gone new_gone come new_come before after = (d : ℕ) (c : Option ℕ) (text : List ℕ) (given : List (List (List ℕ)))
      → HasGiven d c remaining text given source
      → (records : List (List (List ℕ))) × AreRows d c text (given ++ records)
      × PartedBehind places gone new_gone come new_come before after records

-- what a text says as changes: the names of its columns in its header, or numbers where it has none, and for each record after the header
-- a row with its sign, which is the first cell of the record, and the cells under the names by which they are read
abbrev pub AreChanges : Form → List ℕ → List (List ℕ) → List (List ℕ) → Columns → List SignedRow → Type 0
AreChanges form text header names columns signed = (records : List (List (List ℕ))) × AreRows (delimiter_of form) (comment_of form) text records
    × HeadedBy form.has_header Changes records header
    × (map signed_parts signed ≡ map (signed_under names columns) (behind_header form.has_header records))

-- rows that go and rows that come stand after others, which a text says, and their keys after others
abbrev pub PartsChanges : {R : Type 0} → (R → Option (List ℕ)) → Columns → Source R
    → List ReadRow → List ReadRow → List ReadRow → List ReadRow → Option Keys → Option Keys → Type 0
PartsChanges remaining columns source gone new_gone come new_come before after = (form : Form) (text : List ℕ) (header : List (List ℕ))
    → IsOpen form Changes remaining text header source
    → (signed : List SignedRow) × (new_gone ≡ gone ++ gone_rows signed) × (new_come ≡ come ++ come_rows signed)
    × AreChanges form text header source.header.names columns signed × (after ≡ noted_with before (map signed_key signed))

-- the rows of changes by key: under each what goes beside what comes
pub record PairsRows (groups : Bool) (gone come : List ReadRow) (changes : TableChanges) : Type 0 where
  pub gone_by_key : TableRows
  pub come_by_key : TableRows
  pub goes : Gathers groups gone gone_by_key
  pub comes : Gathers groups come come_by_key
  pub joined : IsJoin key_cmp gone_by_key come_by_key changes

-- a text says changes: its rows by their signs, gathered by key
abbrev pub SaysChanges : Form → Bool → List ℕ → List (List ℕ) → List (List ℕ) → Columns → TableChanges → Type 0
SaysChanges form groups text header names columns changes = (signed : List SignedRow) × AreChanges form text header names columns signed
    × PairsRows groups (gone_rows signed) (come_rows signed) changes

-- a source gives the changes that its text says
abbrev pub ReadsChanges : {R : Type 0} → (R → Option (List ℕ)) → Bool → Columns → Source R → TableChanges → Type 0
ReadsChanges remaining groups columns source changes = (form : Form) (text : List ℕ) (header : List (List ℕ))
    → IsOpen form Changes remaining text header source → SaysChanges form groups text header source.header.names columns changes
