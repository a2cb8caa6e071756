-- What `lookup` writes: the rows of the left table in their order, each with what the right table has under its key.
use Rattle.std.specs.Prelude.{◌≡◌, ℕ, List, [], ◌∷◌, ◌++◌, Bool, true, false, Option, None, Some, IfSome, map, nat_eq, option_map}
use Rattle.std.specs.Cmp.Lexicographic.{pointwise}
use Rattle.std.specs.Io.KnownBytes.{Appends}
use Rattle.std.specs.List.{IsDistinct, flat_map}
use Rattle.std.specs.Map.{keys_of, lookup}
use Rattle.keyed_requests.specs.declared.lookups.Finding.{Finding}
use Rattle.keyed_requests.specs.declared.lookups.LookupKind.{LookupKind}
use Rattle.keyed_requests.specs.declared.lookups.LookupKind.TheVariants as kind
use Rattle.keyed_requests.specs.declared.request.Form.{Form}
use Rattle.keyed_requests.specs.declared.request.Layout.{Layout}
use Rattle.keyed_columns.specs.JoinedNames.{found_names}
use Rattle.keyed_columns.specs.Keys.{AreJoinColumns}
use Rattle.keyed_columns.specs.Names.{repeats}
use Rattle.keyed_columns.specs.Placed.{placed}
use Rattle.keyed_columns.specs.declared.columns.JoinColumns.{JoinColumns}
use Rattle.keyed_columns.specs.declared.content.Content.TheVariants.{Rows}
use Rattle.keyed_files.specs.FoundRows.{found_row}
use Rattle.keyed_files.specs.Opening.{form_of, text_of_stream}
use Rattle.keyed_files.specs.Reading.{IsTable, ReadsOn, ReadsRest, parts_of}
use Rattle.keyed_files.specs.Writing.{Wrote, quoted_text}
use Rattle.keyed_files.specs.declared.opened.Stream.{Stream}
use Rattle.keyed_files.specs.declared.source.Places.{Places}
use Rattle.keyed_files.specs.declared.source.Source.{Source}
use Rattle.keyed_files.specs.declared.written.Written.{Written}
use Rattle.keyed_rows.specs.declared.row.ReadRow.{ReadRow}
use Rattle.keyed_commands.specs.JoinAnswers.{heading_of_join}
use Rattle.keyed_commands.specs.declared.commands.lookup.Found.{Found}

-- whether two keys have the same cells
abbrev pub key_eq : List (List ℕ) → List (List ℕ) → Bool
key_eq key other = pointwise (pointwise nat_eq) key other

-- the other cells of the row under a key, if there is one
abbrev pub cells_under : List ReadRow → List (List ℕ) → Option (List (List ℕ))
cells_under rows key = lookup (key_eq key) (map parts_of rows)

module _ (columns : JoinColumns) where
  -- the rows that are written of a row of the left table: one or none, by the kind of the look-up and by what was found
  abbrev pub rows_of : LookupKind → List (List ℕ) → List (List ℕ) → Option (List (List ℕ)) → List (List (List ℕ))
  rows_of kind.Left key rest found = found_row columns key rest found ∷ []
  rows_of kind.Inner key rest None = []
  rows_of kind.Inner key rest (Some cells) = found_row columns key rest (Some cells) ∷ []
  rows_of kind.Anti key rest None = placed columns.left.order.items key rest ∷ []
  rows_of kind.Anti key rest (Some cells) = []

  -- those of all rows of the left table, in their order
  abbrev pub lookup_rows : LookupKind → (List (List ℕ) → Option (List (List ℕ))) → List (List (List ℕ) × List (List ℕ)) → List (List (List ℕ))
  lookup_rows kind find rows = flat_map (λ row. rows_of kind row.0 row.1 (find row.0)) rows

  -- those of rows with what was found
  abbrev pub shown_row : LookupKind → List (List ℕ) × List (List ℕ) × Option Found → List (List (List ℕ))
  shown_row kind row = rows_of kind row.0 row.1 (option_map (λ found. found.cells) row.2)

  abbrev pub shown_rows : LookupKind → List (List (List ℕ) × List (List ℕ) × Option Found) → List (List (List ℕ))
  shown_rows kind rows = flat_map (shown_row kind) rows

-- the texts of parts of rows, one after the other
abbrev pub parts_text : Form → List (List (List (List ℕ))) → List ℕ
parts_text form parts = flat_map (quoted_text form) parts

-- rows are written after the bytes that are there, in parts: each part as a text
abbrev pub AppendsRows : Form → List (List (List ℕ)) → Option (List ℕ) → Option (List ℕ) → Type 0
AppendsRows form rows old new = (parts : List (List (List (List ℕ)))) × (flat_map (λ part. part) parts ≡ rows) × Appends old new (parts_text form parts)

-- the rows of the right table, by key, as they were read
abbrev pub held_row : List (List ℕ) × Found → ReadRow
held_row entry = record { key = entry.0; line = entry.1.line; cells = entry.1.cells }

abbrev pub held_rows : List (List (List ℕ) × Found) → List ReadRow
held_rows entries = map held_row entries

-- what is found under a key
abbrev pub found_under : List (List (List ℕ) × Found) → List (List ℕ) → Option (List (List ℕ))
found_under entries key = option_map (λ found. found.cells) (lookup (key_eq key) entries)

-- rows of the left table, with no line
abbrev pub as_row : List (List ℕ) × List (List ℕ) → ReadRow
as_row row = record { key = row.0; line = 0; cells = row.1 }

abbrev pub as_rows : List (List (List ℕ) × List (List ℕ)) → List ReadRow
as_rows rows = map as_row rows

-- what is written of two texts: each says a table, in the right one each key stands once, and after a header that has no name twice come
-- the rows of the left one in their order, with what the right one has under their keys
pub record LooksUpTexts (layout : Layout) (how : Finding) (left_form right_form : Form) (left_text right_text : List ℕ) (old new : Option (List ℕ)) : Type 0 where
  pub columns : JoinColumns
  pub left_header : List (List ℕ)
  pub right_header : List (List ℕ)
  pub columned : AreJoinColumns layout.key left_header right_header columns
  pub left : List ReadRow
  pub right : List ReadRow
  pub left_says : IsTable left_form Rows left_text left_header left_header columns.left left
  pub right_says : IsTable right_form Rows right_text right_header right_header columns.right right
  pub unique : IsDistinct key_eq (keys_of (map parts_of right))
  pub once : repeats [] (found_names how.kind how.names columns) ≡ false
  pub written : AppendsRows layout.form
      (heading_of_join layout.form (found_names how.kind how.names columns) ++ lookup_rows columns how.kind (cells_under right) (map parts_of left)) old new

module _ {R : Type 0} (remaining : R → Option (List ℕ)) where
  -- rows of a source are read: the last ones, or some before others
  abbrev pub ReadsPart : Bool → Places → Source R → Source R → List ReadRow → Type 0
  ReadsPart true places old new rows = ReadsRest remaining places old [] rows
  ReadsPart false places old new rows = ReadsOn remaining places old new [] rows

  module _ (form : Form) (kind : LookupKind) (columns : JoinColumns) (find : List (List ℕ) → Option (List (List ℕ))) (places : Places) where
    -- whatever rows are not written yet, they are written with those of the next part after them
    abbrev pub WritesPart : Bool → Source R → Source R → Written → Option (List ℕ) → Option (List ℕ) → Type 0
    WritesPart is_last source next written old new = (pending : List (List (List ℕ))) → Wrote form pending written
        → (rows : List (List (List ℕ) × List (List ℕ))) × ReadsPart is_last places source next (as_rows rows)
        × Appends old new (quoted_text form (pending ++ lookup_rows columns kind find rows))

    -- all that a source has left is read, and written after other rows
    abbrev pub WritesBehind : List (List (List ℕ)) → Source R → Option (List ℕ) → Option (List ℕ) → Type 0
    WritesBehind pending source old new = (rows : List (List (List ℕ) × List (List ℕ))) × ReadsRest remaining places source [] (as_rows rows)
        × AppendsRows form (pending ++ lookup_rows columns kind find rows) old new

    -- the same, whatever rows are not written yet
    abbrev pub WritesRest : Source R → Written → Option (List ℕ) → Option (List ℕ) → Type 0
    WritesRest source written old new = (pending : List (List (List ℕ))) → Wrote form pending written → WritesBehind pending source old new

  -- what `lookup` writes of two streams whose texts are known
  abbrev pub LooksUpStreams : Layout → Finding → Stream R → Stream R → Option (List ℕ) → Option (List ℕ) → Type 0
  LooksUpStreams layout how left right old new = IfSome (text_of_stream remaining layout.form left) (λ left_text.
      IfSome (text_of_stream remaining layout.form right) (λ right_text.
      LooksUpTexts layout how (form_of layout.form left) (form_of layout.form right) left_text right_text old new))
