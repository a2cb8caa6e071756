-- What `apply` answers of changes of which some do not fit the table.
use Rattle.std.specs.Prelude.{◌≡◌, ◌==◌, ℕ, Bool, List, Option, length, if◌then◌else◌}
use Rattle.eob_joins.specs.Tables.{IsKeptOfJoin}
use Rattle.keyed_requests.specs.declared.request.Direction.{Direction}
use Rattle.keyed_requests.specs.declared.request.Form.{Form}
use Rattle.keyed_columns.specs.declared.columns.Columns.{Columns}
use Rattle.keyed_jobs.specs.Answers.{AnswersTable, TableChanges, TableRows, key_cmp}
use Rattle.keyed_jobs.specs.Rejected.{IsChangesText, applied_where_fits, rejected_at}
use Rattle.keyed_jobs.specs.Turned.{changes_in}
use Rattle.keyed_jobs.specs.declared.answer.Answer.{Answer}
use Rattle.keyed_jobs.specs.declared.rejected.ChangesForm.{ChangesForm}
use Rattle.keyed_commands.specs.declared.commands.partly.Partly.{Partly}

-- an answer where all changes were made, or some were not
abbrev pub beside : Bool → Answer → Answer
beside whole answer = if whole then answer else record answer { status = 1 }

-- the table with those of the changes made to it that fit, and the others as a text of changes, each the way it was given; the status is 1
-- where there is such a one
pub record AnswersPartly (direction : Direction) (how : ChangesForm) (partly : Partly) (form : Form) (columns : Columns)
    (noted : Option (List (List (List ℕ)))) (by_cells : Bool) (old : TableRows) (changes : TableChanges) : Type 0 where
  pub rows : TableRows
  pub made : Answer
  pub rejected : TableChanges
  pub applied : IsKeptOfJoin key_cmp applied_where_fits old changes rows
  pub table : AnswersTable form columns noted by_cells rows made
  pub others : IsKeptOfJoin key_cmp rejected_at old changes rejected
  pub answer : partly.answer ≡ beside (length rejected == 0) made
  pub text : IsChangesText how columns noted by_cells (changes_in direction rejected) partly.rejected.items
