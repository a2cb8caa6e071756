-- What `diff` answers of two tables that have no key: which of their rows went and which came, as wholes, in their order.
use Rattle.std.specs.Prelude.{◌≡◌, ◌==◌, ◌||◌, ⊤, ℕ, Bool, true, false, All, List, [], ◌∷◌, ◌++◌, Option, IfSome, length, map, nat_eq}
use Rattle.std.specs.Cmp.Lexicographic.{pointwise}
use Rattle.std.specs.List.{flat_map, list_all}
use Rattle.keyed_lines.specs.Parts.{new_parts, old_parts}
use Rattle.keyed_lines.specs.declared.compared.Part.{Part}
use Rattle.keyed_lines.specs.declared.compared.Part.TheVariants.{Kept, Removed, Added}
use Rattle.keyed_requests.specs.declared.request.Form.{Form}
use Rattle.keyed_requests.specs.declared.request.Format.{Format}
use Rattle.keyed_requests.specs.declared.request.Format.TheVariants.{Csv}
use Rattle.keyed_columns.specs.ChangedColumns.{marked_names}
use Rattle.keyed_columns.specs.ColumnNames.{AreColumns}
use Rattle.keyed_columns.specs.declared.columns.Columns.{Columns}
use Rattle.keyed_columns.specs.declared.content.Content.{Content}
use Rattle.keyed_columns.specs.declared.content.Content.TheVariants.{Rows}
use Rattle.keyed_files.specs.Opening.{form_of, text_of_stream}
use Rattle.keyed_files.specs.Reading.{IsOpen, IsTable}
use Rattle.keyed_files.specs.Rows.{shown_sign}
use Rattle.keyed_files.specs.Writing.{text_of}
use Rattle.keyed_files.specs.declared.opened.Stream.{Stream}
use Rattle.keyed_files.specs.declared.opened.Two.{Two}
use Rattle.keyed_files.specs.declared.sign.Sign.TheVariants.{Minus, Plus}
use Rattle.keyed_files.specs.declared.source.Source.{Source}
use Rattle.keyed_rows.specs.declared.row.ReadRow.{ReadRow}
use Rattle.keyed_jobs.specs.Answers.{status_of}
use Rattle.keyed_jobs.specs.ChangeRows.{changes_heading}
use Rattle.keyed_jobs.specs.declared.answer.Answer.{Answer}
use Rattle.keyed_commands.specs.declared.commands.row_diff.RowJob.{RowJob}

-- rows of two tables: each one stays, goes or comes
abbrev pub RowParts : Type 0
RowParts = List (Part (List (List ℕ)))

-- whether both tables have the same columns in the same order; a file with no row says nothing of columns
abbrev pub have_same_columns : List (List ℕ) → List (List ℕ) → Bool
have_same_columns old new = (length old == 0) || (length new == 0) || pointwise (pointwise nat_eq) old new

-- whether a row stays
abbrev pub is_kept : Part (List (List ℕ)) → Bool
is_kept (Kept old new) = true
is_kept (Removed old) = false
is_kept (Added new) = false

-- a row that stays has the same cells in both tables
abbrev pub IsSameRow : Part (List (List ℕ)) → Type 0
IsSameRow (Kept old new) = old ≡ new
IsSameRow (Removed old) = ⊤
IsSameRow (Added new) = ⊤

-- the rows that tell of a row, each after its sign: none where it stays
abbrev pub signed_row : Part (List (List ℕ)) → List (List (List ℕ))
signed_row (Kept old new) = []
signed_row (Removed old) = (shown_sign Minus ∷ old) ∷ []
signed_row (Added new) = (shown_sign Plus ∷ new) ∷ []

abbrev pub signed_rows : RowParts → List (List (List ℕ))
signed_rows parts = flat_map signed_row parts

-- an answer tells of two lists of rows: there is a list of rows each of which stays, goes or comes; those that stay or go are the old ones,
-- those that stay or come the new ones; CSV has exactly those that go or come, in this order; and the status is 0 exactly where all stay
pub record AnswersRows (form : Form) (format : Format) (marked : List (List ℕ)) (old new : List (List (List ℕ))) (answer : Answer) : Type 0 where
  pub parts : RowParts
  pub before : old_parts parts ≡ old
  pub after : new_parts parts ≡ new
  pub same : All IsSameRow parts
  pub csv : format ≡ Csv → answer.bytes.items ≡ text_of form (changes_heading form marked ++ signed_rows parts)
  pub status : answer.status ≡ status_of (list_all is_kept parts)

-- a text says these rows as a table of such columns, in their order
abbrev pub SaysRows : Form → Content → List ℕ → List (List ℕ) → List (List ℕ) → Columns → List (List (List ℕ)) → Type 0
SaysRows form kind text header names columns rows = (read : List ReadRow) × IsTable form kind text header names columns read
    × (rows ≡ map (λ row. row.cells) read)

-- what `diff` answers of two texts whose rows are compared as wholes: both have the same columns, none of which is a key
pub record DiffsRowTexts (form : Form) (format : Format) (old_form new_form : Form) (old_text new_text : List ℕ) (answer : Answer) : Type 0 where
  pub columns : Columns
  pub header : List (List ℕ)
  pub next_header : List (List ℕ)
  pub alike : have_same_columns header next_header ≡ true
  pub columned : AreColumns [] (next_header ∷ header ∷ []) columns
  pub old : List (List (List ℕ))
  pub new : List (List (List ℕ))
  pub old_says : SaysRows old_form Rows old_text header header columns old
  pub new_says : SaysRows new_form Rows new_text next_header next_header columns new
  pub answers : AnswersRows form format (marked_names header next_header) old new answer

module _ {R : Type 0} (remaining : R → Option (List ℕ)) where
  -- a source gives the rows that its text says
  abbrev pub ReadsCells : Columns → Source R → List (List (List ℕ)) → Type 0
  ReadsCells columns source rows = (form : Form) (kind : Content) (text : List ℕ) (header : List (List ℕ))
      → IsOpen form kind remaining text header source → SaysRows form kind text header source.header.names columns rows

  -- an answer tells of the rows of two sources
  pub record DiffsRowSources (job : RowJob) (versions : Two R) (answer : Answer) : Type 0 where
    pub old : List (List (List ℕ))
    pub new : List (List (List ℕ))
    pub old_read : ReadsCells job.columns.now versions.first.source.value old
    pub new_read : ReadsCells job.columns.now versions.next.source.value new
    pub answers : AnswersRows job.form job.how.format job.marked.now old new answer

  -- and so of two streams whose texts are known
  abbrev pub DiffsRowStreams : Form → Format → Stream R → Stream R → Answer → Type 0
  DiffsRowStreams form format old new answer = IfSome (text_of_stream remaining form old) (λ old_text.
      IfSome (text_of_stream remaining form new) (λ new_text.
      DiffsRowTexts form format (form_of form old) (form_of form new) old_text new_text answer))
