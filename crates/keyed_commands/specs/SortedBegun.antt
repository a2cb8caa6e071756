-- What `diff` as CSV and `join` have written of two tables that they read part by part, where they end with an error.
use Rattle.std.specs.Prelude.{◌≡◌, ◌++◌, ℕ, true, false, List, [], Option, None, IfSome}
use Rattle.eob_joins.specs.Changes.{changed}
use Rattle.eob_joins.specs.Tables.{IsKeptOfJoin}
use Rattle.keyed_rows.specs.declared.row.ReadRow.{ReadRow}
use Rattle.keyed_requests.specs.declared.request.Form.{Form}
use Rattle.keyed_requests.specs.declared.request.Joining.{Joining}
use Rattle.keyed_requests.specs.declared.request.Layout.{Layout}
use Rattle.keyed_columns.specs.ChangedColumns.{marked_names}
use Rattle.keyed_columns.specs.JoinedNames.{joined_names}
use Rattle.keyed_columns.specs.Keys.{AreChangeColumns, AreJoinColumns}
use Rattle.keyed_columns.specs.Names.{repeats}
use Rattle.keyed_columns.specs.declared.columns.Columns.{Columns}
use Rattle.keyed_columns.specs.declared.columns.JoinColumns.{JoinColumns}
use Rattle.keyed_columns.specs.declared.content.Content.TheVariants.{Rows}
use Rattle.keyed_files.specs.Opening.{first_header, form_of, next_header, text_of_stream}
use Rattle.keyed_files.specs.Writing.{text_of}
use Rattle.keyed_files.specs.declared.opened.Stream.{Stream}
use Rattle.keyed_files.specs.declared.opened.Two.{Two}
use Rattle.keyed_jobs.specs.Answers.{IsDiffText, TableChanges, key_cmp, rows_eq}
use Rattle.keyed_jobs.specs.ChangeRows.{changes_heading, changes_rows}
use Rattle.keyed_jobs.specs.TablesRead.{AreNames}
use Rattle.keyed_jobs.specs.Written.{PutsBeginning}
use Rattle.keyed_commands.specs.FirstRows.{BeginsWith, ReadsFirst, table_of}
use Rattle.keyed_commands.specs.PartAnswers.{SaysJoin}

module _ {R : Type 0} (remaining : R → Option (List ℕ)) where
  -- the text of exactly the changes between the rows that two sources begin with, up to one key
  pub record DiffsFirst (layout : Layout) (versions : Two R) (text : List ℕ) : Type 0 where
    pub columns : Columns
    pub columned : AreChangeColumns layout.key (first_header versions) (next_header versions) columns
    pub bound : Option (List (List ℕ))
    pub old : List ReadRow
    pub new : List ReadRow
    pub old_read : ReadsFirst remaining columns versions.first.source.value bound old
    pub new_read : ReadsFirst remaining columns versions.next.source.value bound new
    pub changes : TableChanges
    pub are : IsKeptOfJoin key_cmp (changed rows_eq) (table_of old) (table_of new) changes
    pub is : text ≡ text_of layout.form (changes_heading layout.form (marked_names (first_header versions) (next_header versions))
        ++ changes_rows columns.order.items changes)

-- the text that `diff` as CSV answers of the rows that two texts begin with, up to one key
pub record DiffsFirstRows (layout : Layout) (old_form new_form : Form) (old_text new_text text : List ℕ) : Type 0 where
  pub columns : Columns
  pub header : List (List ℕ)
  pub names : List (List ℕ)
  pub next_header : List (List ℕ)
  pub named : AreNames layout.key header names
  pub columned : AreChangeColumns layout.key names next_header columns
  pub bound : Option (List (List ℕ))
  pub old : List ReadRow
  pub new : List ReadRow
  pub old_begins : BeginsWith old_form Rows old_text header names columns bound old
  pub new_begins : BeginsWith new_form Rows new_text next_header next_header columns bound new
  pub changes : IsDiffText layout.form columns None true (marked_names names next_header) (table_of old) (table_of new) text

-- the rows of the join of the rows that two texts begin with, up to one key, in parts, as `join` puts them
pub record JoinsFirstRows (layout : Layout) (how : Joining) (left_form right_form : Form) (left_text right_text text : List ℕ) : Type 0 where
  pub columns : JoinColumns
  pub left_header : List (List ℕ)
  pub right_header : List (List ℕ)
  pub columned : AreJoinColumns layout.key left_header right_header columns
  pub bound : Option (List (List ℕ))
  pub left : List ReadRow
  pub right : List ReadRow
  pub left_begins : BeginsWith left_form Rows left_text left_header left_header columns.left bound left
  pub right_begins : BeginsWith right_form Rows right_text right_header right_header columns.right bound right
  pub once : layout.form.has_header ≡ true → repeats [] (joined_names how.kind how.names columns) ≡ false
  pub says : SaysJoin layout.form columns (joined_names how.kind how.names columns) how.kind (table_of left) (table_of right) text

module _ {R : Type 0} (remaining : R → Option (List ℕ)) where
  -- what stands there of two streams whose texts are known, where it ends with a fault of this file
  abbrev pub DiffsStreamsBegun : Layout → Stream R → Stream R → List ℕ → Option (List ℕ) → Option (List ℕ) → Type 0
  DiffsStreamsBegun layout old new file before after = IfSome (text_of_stream remaining layout.form old) (λ old_text.
      IfSome (text_of_stream remaining layout.form new) (λ new_text.
      PutsBeginning (DiffsFirstRows layout (form_of layout.form old) (form_of layout.form new) old_text new_text) file before after))

  abbrev pub JoinsStreamsBegun : Layout → Joining → Stream R → Stream R → List ℕ → Option (List ℕ) → Option (List ℕ) → Type 0
  JoinsStreamsBegun layout how left right file before after = IfSome (text_of_stream remaining layout.form left) (λ left_text.
      IfSome (text_of_stream remaining layout.form right) (λ right_text.
      PutsBeginning (JoinsFirstRows layout how (form_of layout.form left) (form_of layout.form right) left_text right_text) file before after))
