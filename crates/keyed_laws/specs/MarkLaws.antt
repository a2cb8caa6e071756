-- What `merge` with marks answers, by whether a key is in conflict.
use Rattle.std.specs.Prelude.{◌≡◌, ℕ, Bool, List, MatchBool, Option}
use Rattle.keyed_requests.specs.AnswerForm.{in_style}
use Rattle.keyed_requests.specs.declared.merging.Conflicts.TheVariants.{Marks}
use Rattle.keyed_requests.specs.declared.merging.Unit.{Unit}
use Rattle.keyed_requests.specs.declared.merging.Unit.TheVariants as unit
use Rattle.keyed_requests.specs.declared.request.Form.{Form}
use Rattle.keyed_requests.specs.declared.request.Settings.{Settings}
use Rattle.keyed_columns.specs.declared.columns.Columns.{Columns}
use Rattle.keyed_jobs.specs.Answers.{AnswersMerged, AnswersMergedByCell, HasConflict, HasNoConflict, HasNoneUnresolved, HasUnresolved, Stops, TableRows}
use Rattle.keyed_jobs.specs.MarkedText.{has_all_columns}
use Rattle.keyed_jobs.specs.declared.answer.Answer.{Answer}
use Rattle.keyed_jobs.specs.declared.answer.Outcome.TheVariants.{Made}
use Rattle.keyed_commands.specs.MergedTexts.{MergesTexts}

-- no key is in conflict, and some key is, by what is merged as one
abbrev pub HasNoneIn : Unit → TableRows → TableRows → TableRows → Type 0
HasNoneIn unit.Row base ours theirs = HasNoConflict base ours theirs
HasNoneIn unit.Cell base ours theirs = HasNoneUnresolved base ours theirs

abbrev pub HasSomeIn : Unit → TableRows → TableRows → TableRows → Type 0
HasSomeIn unit.Row base ours theirs = HasConflict base ours theirs
HasSomeIn unit.Cell base ours theirs = HasUnresolved base ours theirs

-- the merged table
abbrev pub AnswersWhole : Form → Columns → Option (List (List (List ℕ))) → Bool → TableRows → TableRows → TableRows → Answer → Unit → Type 0
AnswersWhole form columns keys by_cells base ours theirs answer unit.Row = AnswersMerged form columns keys by_cells base ours theirs answer
AnswersWhole form columns keys by_cells base ours theirs answer unit.Cell = AnswersMergedByCell form columns keys by_cells base ours theirs answer

-- the merged table where no key is in conflict, and else a table with marks, or a report where a column goes, both with status 1
pub record MarksByKey (by : Unit) (form : Form) (columns : Columns) (keys : Option (List (List (List ℕ)))) (by_cells : Bool) (base ours theirs : TableRows)
    (answer : Answer) : Type 0 where
  pub whole : HasNoneIn by base ours theirs → AnswersWhole form columns keys by_cells base ours theirs answer by
  pub conflict : HasSomeIn by base ours theirs → MatchBool (has_all_columns columns) ((answer.status ≡ 1) × (answer.outcome ≡ Made)) (Stops answer)

-- what `merge` with marks makes of three texts is so, whatever the texts are
abbrev pub MarksLaw : Type 0
MarksLaw = (by : Unit) (settings : Settings) (base_form ours_form theirs_form : Form) (base_text ours_text theirs_text : List ℕ) (answer : Answer)
    → (merges : MergesTexts Marks by settings base_form ours_form theirs_form base_text ours_text theirs_text answer)
    → MarksByKey by (in_style merges.merged.style settings.form) merges.columns merges.merged.keys merges.merged.by_cells merges.base merges.ours merges.theirs answer
