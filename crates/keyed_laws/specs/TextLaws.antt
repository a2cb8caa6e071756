-- What follows of the texts that commands read and write.
use Rattle.std.specs.Prelude.{◌≡◌, ◌≢◌, ◌++◌, ℕ, Bool, true, false, List, [], None}
use Rattle.eob_joins.specs.Changes.{changed}
use Rattle.eob_joins.specs.Tables.{IsKeptOfJoin}
use Rattle.keyed_text.specs.declared.style.Style.{Style}
use Rattle.keyed_faults.specs.Encodings.{is_marked}
use Rattle.keyed_requests.specs.AnswerForm.{in_style, writes_heading}
use Rattle.keyed_requests.specs.FormBytes.{comment_of, delimiter_of}
use Rattle.keyed_requests.specs.declared.request.Form.{Form}
use Rattle.keyed_requests.specs.declared.request.Settings.{Settings}
use Rattle.keyed_columns.specs.ColumnNames.{or_header}
use Rattle.keyed_columns.specs.Names.{repeats}
use Rattle.keyed_columns.specs.Placed.{names_headed, placed}
use Rattle.keyed_columns.specs.declared.columns.Columns.{Columns}
use Rattle.keyed_requests.specs.declared.request.Direction.TheVariants.{Forward}
use Rattle.keyed_columns.specs.declared.content.Content.{Content}
use Rattle.keyed_columns.specs.declared.content.Content.TheVariants.{Rows}
use Rattle.keyed_files.specs.Rows.{heading, table_rows}
use Rattle.keyed_files.specs.SpelledFiles.{IsUnmarked}
use Rattle.keyed_files.specs.Writing.{text_of}
use Rattle.keyed_text.specs.Texts.{BeginsComments, PartsCells, ReadsAs}
use Rattle.keyed_jobs.specs.Answers.{IsTableFile, TableChanges, TableRows, key_cmp, rows_eq}
use Rattle.keyed_jobs.specs.ChangesRead.{SaysChanges}
use Rattle.keyed_jobs.specs.TablesRead.{DiffsTexts, SaysTable}
use Rattle.keyed_jobs.specs.declared.answer.Answer.{Answer}
use Rattle.keyed_jobs.specs.declared.answer.Outcome.TheVariants.{Made}
use Rattle.keyed_commands.specs.AppliedTexts.{AppliesTexts}

-- a text says one table
abbrev pub OneTableLaw : Type 0
OneTableLaw = (form : Form) (kind : Content) (groups : Bool) (text : List ℕ) (header names : List (List ℕ)) (columns : Columns) (table other : TableRows)
    → SaysTable form kind groups text header names columns table → SaysTable form kind groups text header names columns other → table ≡ other

-- and one list of changes
abbrev pub OneChangesLaw : Type 0
OneChangesLaw = (form : Form) (groups : Bool) (text : List ℕ) (header names : List (List ℕ)) (columns : Columns) (changes others : TableChanges)
    → SaysChanges form groups text header names columns changes → SaysChanges form groups text header names columns others → changes ≡ others

-- other columns that are read of a text as these are, in whatever order they are written
pub record AreReadAs (columns others : Columns) : Type 0 where
  pub key : others.key ≡ columns.key
  pub rest : others.rest ≡ columns.rest

-- what `diff` writes says, where it is read as changes, exactly the changes between the tables that its texts say
abbrev pub DiffSaysLaw : Type 0
DiffSaysLaw = (settings : Settings) (old_form new_form : Form) (old_text new_text : List ℕ) (answer : Answer) (header : List (List ℕ)) (columns : Columns)
    (changes : TableChanges) → writes_heading settings.form ≡ true → PartsCells (delimiter_of settings.form)
    → BeginsComments (delimiter_of settings.form) (comment_of settings.form) → settings.keeps_order ≡ false
    → (diffs : DiffsTexts settings old_form new_form old_text new_text answer) → AreReadAs diffs.columns columns
    → SaysChanges settings.form settings.groups answer.bytes.items header header columns changes
    → IsKeptOfJoin key_cmp (changed rows_eq) diffs.old diffs.new changes

-- no name stands twice in the header of a text
abbrev pub NamesOnce : Form → List ℕ → Type 0
NamesOnce form text = (header : List (List ℕ)) (rows : List (List (List ℕ))) → ReadsAs (delimiter_of form) (comment_of form) text header rows
    → repeats [] header ≡ false

-- an answer is the text of a table by key, and its status is 0
abbrev pub MakesTable : Form → Columns → TableRows → Answer → Type 0
MakesTable form columns table answer = (answer.status ≡ 0) × (answer.outcome ≡ Made) × IsTableFile form columns None true table answer.bytes.items

-- the rows that a table is written as, after its header
abbrev pub table_text_rows : Form → Columns → TableRows → List (List (List ℕ))
table_text_rows form columns table = heading form None columns ++ table_rows columns.order.items table

-- what a text says, where it is read as a table by these names and columns, is this table and no other
abbrev pub SaysOnly : Form → Bool → List ℕ → List (List ℕ) → Columns → TableRows → Type 0
SaysOnly form groups text names columns table = (other : TableRows) → SaysTable form Rows groups text names names columns other → other ≡ table

-- an answer is the file, in this style, of the table that a text says under these columns, with the names of its header, or with others
-- where it has none; read again, it says that table and no other, where it has a column and the text of its rows, however each is spelled,
-- begins with no mark of an encoding
pub record AnswersTableOf (settings : Settings) (style : Style) (columns : Columns) (form : Form) (text : List ℕ) (others : List (List ℕ)) (answer : Answer) : Type 0 where
  pub header : List (List ℕ)
  pub table : TableRows
  pub names : placed columns.order.items columns.key columns.rest ≡ or_header header others
  pub spells : names_headed columns ≡ or_header header others
  pub says : SaysTable form Rows settings.groups text header header columns table
  pub answers : MakesTable (in_style style settings.form) columns table answer
  pub reads : or_header header others ≢ [] → is_marked (text_of (in_style style settings.form) (table_text_rows settings.form columns table)) ≡ false
      → IsUnmarked (in_style style settings.form) (table_text_rows settings.form columns table)
      → SaysOnly settings.form settings.groups answer.bytes.items (or_header header others) columns table

-- what `apply` answers of the first of two texts, and of what `diff` wrote between both, is the text of the table that the second one says:
-- where both have headers, in which no name stands twice, rows come out by key, and both commands read the first one under the same names,
-- none twice, and by the same key
abbrev pub DiffedTextByLaw : Type 0
DiffedTextByLaw = (settings : Settings) (old_form new_form : Form) (old_text new_text : List ℕ) (difference answer : Answer)
    → writes_heading settings.form ≡ true → old_form.has_header ≡ true → new_form.has_header ≡ true
    → PartsCells (delimiter_of settings.form) → BeginsComments (delimiter_of settings.form) (comment_of settings.form)
    → settings.keeps_order ≡ false → NamesOnce old_form old_text → NamesOnce new_form new_text
    → (diffs : DiffsTexts settings old_form new_form old_text new_text difference)
    → (applies : AppliesTexts settings Forward old_form settings.form old_text difference.bytes.items answer)
    → applies.names ≡ diffs.names → repeats [] diffs.names ≡ false → applies.columns.key ≡ diffs.columns.key
    → AnswersTableOf settings applies.applied.style applies.columns new_form new_text diffs.names answer

-- the same where the key is the first column, and no column has another name
abbrev pub DiffedTextLaw : Type 0
DiffedTextLaw = (settings : Settings) (old_form new_form : Form) (old_text new_text : List ℕ) (difference answer : Answer)
    → writes_heading settings.form ≡ true → old_form.has_header ≡ true → new_form.has_header ≡ true
    → PartsCells (delimiter_of settings.form) → BeginsComments (delimiter_of settings.form) (comment_of settings.form)
    → settings.keeps_order ≡ false → NamesOnce old_form old_text → NamesOnce new_form new_text
    → settings.key ≡ None → settings.renames ≡ None
    → (diffs : DiffsTexts settings old_form new_form old_text new_text difference)
    → (applies : AppliesTexts settings Forward old_form settings.form old_text difference.bytes.items answer)
    → AnswersTableOf settings applies.applied.style applies.columns new_form new_text diffs.names answer
