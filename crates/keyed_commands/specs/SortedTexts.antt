-- What `diff` as CSV and `join` write of two tables while they read them part by part.
use Rattle.std.specs.Prelude.{◌≡◌, ◌==◌, ◌&&◌, ◌++◌, ℕ, true, false, not, List, [], Option, None, IfSome, length}
use Rattle.std.specs.Io.KnownBytes.{Appends}
use Rattle.eob_joins.specs.Changes.{changed}
use Rattle.eob_joins.specs.Tables.{IsKeptOfJoin}
use Rattle.keyed_requests.specs.declared.request.Form.{Form}
use Rattle.keyed_requests.specs.declared.request.Joining.{Joining}
use Rattle.keyed_requests.specs.declared.request.Layout.{Layout}
use Rattle.keyed_columns.specs.ChangedColumns.{marked_names}
use Rattle.keyed_columns.specs.JoinedNames.{joined_names}
use Rattle.keyed_columns.specs.Keys.{AreChangeColumns, AreJoinColumns}
use Rattle.keyed_columns.specs.Names.{repeats}
use Rattle.keyed_columns.specs.declared.columns.Columns.{Columns}
use Rattle.keyed_columns.specs.declared.columns.JoinColumns.{JoinColumns}
use Rattle.keyed_columns.specs.declared.content.Content.TheVariants.{Rows}
use Rattle.keyed_files.specs.Opening.{first_header, form_of, next_header, text_of_stream}
use Rattle.keyed_files.specs.Writing.{text_of}
use Rattle.keyed_files.specs.declared.opened.Stream.{Stream}
use Rattle.keyed_files.specs.declared.opened.Two.{Two}
use Rattle.keyed_jobs.specs.Answers.{IsDiffText, TableChanges, TableRows, key_cmp, rows_eq, status_of}
use Rattle.keyed_jobs.specs.ChangeRows.{changes_heading, changes_rows}
use Rattle.keyed_jobs.specs.TablesRead.{AreNames, IsStatusBetween, ReadsTable, SaysTable, headers_differ}
use Rattle.keyed_commands.specs.JoinAnswers.{header_of_join}
use Rattle.keyed_commands.specs.PartAnswers.{SaysJoin}

module _ {R : Type 0} (remaining : R → Option (List ℕ)) where
  -- the text of exactly the changes between the tables of two sources is put after what was written; the status is 0 exactly where there is no
  -- change and no column comes or goes, and else 1
  pub record DiffsInParts (layout : Layout) (versions : Two R) (before after : Option (List ℕ)) (status : ℕ) : Type 0 where
    pub columns : Columns
    pub columned : AreChangeColumns layout.key (first_header versions) (next_header versions) columns
    pub old : TableRows
    pub new : TableRows
    pub old_read : ReadsTable remaining false columns versions.first.source.value old
    pub new_read : ReadsTable remaining false columns versions.next.source.value new
    pub changes : TableChanges
    pub are : IsKeptOfJoin key_cmp (changed rows_eq) old new changes
    pub text : List ℕ
    pub is : text ≡ text_of layout.form (changes_heading layout.form (marked_names (first_header versions) (next_header versions))
        ++ changes_rows columns.order.items changes)
    pub puts : Appends before after text
    pub told : status ≡ status_of ((length changes == 0) && not (headers_differ (first_header versions) (next_header versions)))

  -- and the rows of their join, under these names
  pub record JoinsInParts (layout : Layout) (how : Joining) (names : List (List ℕ)) (sides : Two R) (before after : Option (List ℕ)) (status : ℕ) : Type 0 where
    pub columns : JoinColumns
    pub columned : AreJoinColumns layout.key (first_header sides) (next_header sides) columns
    pub named : names ≡ header_of_join layout.form how columns
    pub once : repeats [] names ≡ false
    pub left : TableRows
    pub right : TableRows
    pub left_read : ReadsTable remaining false columns.left sides.first.source.value left
    pub right_read : ReadsTable remaining false columns.right sides.next.source.value right
    pub text : List ℕ
    pub says : SaysJoin layout.form columns names how.kind left right text
    pub puts : Appends before after text
    pub told : status ≡ 0

-- what `diff` as CSV writes of two texts: each says a table under the columns of both, and the text of exactly the changes between them, by key, whose
-- header marks each column by what became of it, is put after what was written: the text that `diff` answers of whole tables
pub record DiffsTextsInParts (layout : Layout) (old_form new_form : Form) (old_text new_text : List ℕ) (before after : Option (List ℕ)) (status : ℕ) : Type 0 where
  pub columns : Columns
  pub header : List (List ℕ)
  pub names : List (List ℕ)
  pub next_header : List (List ℕ)
  pub named : AreNames layout.key header names
  pub columned : AreChangeColumns layout.key names next_header columns
  pub old : TableRows
  pub new : TableRows
  pub old_says : SaysTable old_form Rows false old_text header names columns old
  pub new_says : SaysTable new_form Rows false new_text next_header next_header columns new
  pub text : List ℕ
  pub changes : IsDiffText layout.form columns None true (marked_names names next_header) old new text
  pub puts : Appends before after text
  pub told : IsStatusBetween names next_header old new status

-- what `join` writes of two texts: each says a table under its columns, and the rows of the join of both, by key, are put after what was written, in
-- parts, each a text of its own, under a header that has no name twice
pub record JoinsTextsInParts (layout : Layout) (how : Joining) (left_form right_form : Form) (left_text right_text : List ℕ) (before after : Option (List ℕ)) (status : ℕ) : Type 0 where
  pub columns : JoinColumns
  pub left_header : List (List ℕ)
  pub right_header : List (List ℕ)
  pub columned : AreJoinColumns layout.key left_header right_header columns
  pub left : TableRows
  pub right : TableRows
  pub left_says : SaysTable left_form Rows false left_text left_header left_header columns.left left
  pub right_says : SaysTable right_form Rows false right_text right_header right_header columns.right right
  pub once : layout.form.has_header ≡ true → repeats [] (joined_names how.kind how.names columns) ≡ false
  pub text : List ℕ
  pub says : SaysJoin layout.form columns (joined_names how.kind how.names columns) how.kind left right text
  pub puts : Appends before after text
  pub told : status ≡ 0

-- the same of two streams whose texts are known
abbrev pub DiffsStreamsInParts : {R : Type 0} → (R → Option (List ℕ)) → Layout → Stream R → Stream R → Option (List ℕ) → Option (List ℕ) → ℕ → Type 0
DiffsStreamsInParts remaining layout old new before after status = IfSome (text_of_stream remaining layout.form old) (λ old_text.
    IfSome (text_of_stream remaining layout.form new) (λ new_text.
    DiffsTextsInParts layout (form_of layout.form old) (form_of layout.form new) old_text new_text before after status))

abbrev pub JoinsStreamsInParts : {R : Type 0} → (R → Option (List ℕ)) → Layout → Joining → Stream R → Stream R → Option (List ℕ) → Option (List ℕ) → ℕ → Type 0
JoinsStreamsInParts remaining layout how left right before after status = IfSome (text_of_stream remaining layout.form left) (λ left_text.
    IfSome (text_of_stream remaining layout.form right) (λ right_text.
    JoinsTextsInParts layout how (form_of layout.form left) (form_of layout.form right) left_text right_text before after status))
