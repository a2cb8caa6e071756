-- The order of rows that come out as they stand in the files: the keys of these, each once.
use Rattle.std.specs.Prelude.{◌≡◌, ℕ, Bool, true, false, List, [], ◌++◌, Option, Some, None, map, nat_eq, option_map}
use Rattle.std.specs.Cmp.Lexicographic.{pointwise}
use Rattle.indexmap.specs.IndexSet.{insert_all}
use Rattle.keyed_requests.specs.FormBytes.{comment_of, delimiter_of}
use Rattle.keyed_requests.specs.declared.request.Form.{Form}
use Rattle.keyed_columns.specs.CellsUnder.{row_under}
use Rattle.keyed_columns.specs.declared.columns.Columns.{Columns}
use Rattle.keyed_columns.specs.declared.content.Content.{Content}
use Rattle.keyed_columns.specs.declared.content.Content.TheVariants.{Rows}
use Rattle.keyed_files.specs.Reading.{IsOpen, behind_header}
use Rattle.keyed_files.specs.declared.source.Source.{Source}
use Rattle.keyed_rows.specs.declared.row.ReadRow.{ReadRow}
use Rattle.keyed_tables.specs.Placed.{placed_noted}
use Rattle.keyed_text.specs.Texts.{AreRows}

abbrev pub Keys : Type 0
Keys = List (List (List ℕ))

-- keys once others are noted after them, each unless it is among them; none are where rows come out in the order of their keys
abbrev pub noted_with : Option Keys → Keys → Option Keys
noted_with before keys = option_map (λ there. insert_all (pointwise (pointwise nat_eq)) there keys) before

-- no key yet, where rows come out in the order of the files
abbrev pub begun_keys : Bool → Option Keys
begun_keys true = Some []
begun_keys false = None

-- the keys of files, one file after the other, where rows come out in their order
abbrev pub noted_keys : Bool → Keys → Option Keys
noted_keys keeps_order keys = noted_with (begun_keys keeps_order) keys

-- keys with those of a table that is merged into the ones before it, each new one after the key that it follows there
abbrev pub placed_with : Option Keys → Keys → Option Keys
placed_with before keys = placed_noted (pointwise (pointwise nat_eq)) before (noted_with (option_map (λ _. []) before) keys)

-- the keys of rows that are put after others are noted after others
abbrev pub NotesRows : List ReadRow → List ReadRow → Option Keys → Option Keys → Type 0
NotesRows old new before after = (more : List ReadRow) × (new ≡ old ++ more) × (after ≡ noted_with before (map (λ row. row.key) more))

-- the keys of the rows of a text under columns, as they stand there
abbrev pub KeysOf : Form → Content → List ℕ → List (List ℕ) → Columns → Keys → Type 0
KeysOf form kind text names columns keys = (records : List (List (List ℕ))) × AreRows (delimiter_of form) (comment_of form) text records
    × (keys ≡ map (λ fields. (row_under kind names columns fields).0) (behind_header form.has_header records))

-- the keys that are noted of two texts, where rows come out in the order of the files: those of the first, and then in some way those of the
-- next one
pub record AreKeysOfBoth (first_form next_form : Form) (kind : Content) (first_text next_text : List ℕ) (names others : List (List ℕ))
    (columns next_columns : Columns) (step : Option Keys → Keys → Option Keys) (keeps_order : Bool) (keys : Option Keys) : Type 0 where
  pub first : Keys
  pub next : Keys
  pub first_keyed : KeysOf first_form Rows first_text names columns first
  pub next_keyed : KeysOf next_form kind next_text others next_columns next
  pub are : keys ≡ step (noted_keys keeps_order first) next

module _ {R : Type 0} (remaining : R → Option (List ℕ)) where
  -- what holds of the keys of the text of a source
  abbrev pub OfKeys : Content → Columns → Source R → (Keys → Type 0) → Type 0
  OfKeys kind columns source P = (form : Form) (text : List ℕ) (header : List (List ℕ)) → IsOpen form kind remaining text header source
      → (keys : Keys) × KeysOf form kind text source.header.names columns keys × P keys

  -- the keys of a table are noted after others, and then in some way those of what is read next
  pub record NotesBoth (kind : Content) (columns others : Columns) (first next : Source R) (step : Option Keys → Keys → Option Keys)
      (before after : Option Keys) : Type 0 where
    pub mid : Option Keys
    pub first_noted : OfKeys Rows columns first (λ keys. mid ≡ noted_with before keys)
    pub next_noted : OfKeys kind others next (λ keys. after ≡ step mid keys)
