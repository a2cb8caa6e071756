-- What follows of the answers of commands.
use Rattle.std.specs.Prelude.{◌≡◌, ℕ, Bool, true, List, ◌∷◌, Option}
use Rattle.either_or_both.specs.Join.{Rising}
use Rattle.eob_joins.specs.Changes.{applied, changed}
use Rattle.eob_joins.specs.Tables.{IsKeptOfJoin}
use Rattle.keyed_requests.specs.AnswerForm.{writes_heading}
use Rattle.keyed_requests.specs.FormBytes.{comment_of, delimiter_of}
use Rattle.keyed_requests.specs.declared.request.Form.{Form}
use Rattle.keyed_columns.specs.declared.columns.Columns.{Columns}
use Rattle.keyed_files.specs.Rows.{change_name}
use Rattle.keyed_text.specs.Texts.{BeginsComments, PartsCells, ReadsAs}
use Rattle.keyed_jobs.specs.declared.answer.Answer.{Answer}
use Rattle.keyed_jobs.specs.Answers.{AllFit, AnswersPatched, AnswersTable, ChangesComeOut, IsDiffText, TableChanges, TableRows, key_cmp, rows_eq}
use Rattle.keyed_jobs.specs.ChangeRows.{changes_rows}
use Rattle.keyed_jobs.specs.Turned.{turned}

-- the changes between two tables fit the old one
abbrev pub ChangesFitLaw : Type 0
ChangesFitLaw = (old new : TableRows) (changes : TableChanges) → IsKeptOfJoin key_cmp (changed rows_eq) old new changes → AllFit key_cmp old changes

-- and made to it they give the new one
abbrev pub ChangesMakeLaw : Type 0
ChangesMakeLaw = (old new : TableRows) (changes : TableChanges) → Rising key_cmp old → Rising key_cmp new → IsKeptOfJoin key_cmp (changed rows_eq) old new changes
    → (rows : TableRows) → IsKeptOfJoin key_cmp applied old changes rows → rows ≡ new

-- so what `apply` answers to them is the text of the new one
abbrev pub DiffApplyLaw : Type 0
DiffApplyLaw = (form : Form) (columns : Columns) (noted : Option (List (List (List ℕ)))) (by_cells : Bool) (old new : TableRows) (changes : TableChanges) (answer : Answer)
    → Rising key_cmp old → Rising key_cmp new → IsKeptOfJoin key_cmp (changed rows_eq) old new changes
    → (AllFit key_cmp old changes → AnswersPatched form columns noted by_cells old changes answer) → AnswersTable form columns noted by_cells new answer

-- a text of changes reads as its heading and the rows of the changes, each after its sign, and as nothing else
abbrev pub DiffReadsLaw : Type 0
DiffReadsLaw = (form : Form) (columns : Columns) (noted : Option (List (List (List ℕ)))) (by_cells : Bool) (marked : List (List ℕ)) (old new : TableRows) (text : List ℕ)
    → writes_heading form ≡ true → PartsCells (delimiter_of form) → BeginsComments (delimiter_of form) (comment_of form)
    → IsDiffText form columns noted by_cells marked old new text
    → (shown : TableChanges) × ChangesComeOut noted by_cells old new shown
    × ReadsAs (delimiter_of form) (comment_of form) text (change_name ∷ marked) (changes_rows columns.order.items shown)
    × ((names : List (List ℕ)) (found : List (List (List ℕ))) → ReadsAs (delimiter_of form) (comment_of form) text names found
    → (names ≡ change_name ∷ marked) × (found ≡ changes_rows columns.order.items shown))

-- changes turned about fit the table that the changes made
abbrev pub TakenBackFitsLaw : Type 0
TakenBackFitsLaw = (old rows : TableRows) (changes : TableChanges) → IsKeptOfJoin key_cmp applied old changes rows → AllFit key_cmp rows (turned changes)

-- and made to it they give the table back that the changes were made to, where they fitted it
abbrev pub TakenBackLaw : Type 0
TakenBackLaw = (old rows back : TableRows) (changes : TableChanges) → Rising key_cmp old → AllFit key_cmp old changes
    → IsKeptOfJoin key_cmp applied old changes rows → IsKeptOfJoin key_cmp applied rows (turned changes) back → back ≡ old
