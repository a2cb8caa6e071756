-- What `apply` answers of the texts of a table and of changes.
use Rattle.std.specs.Prelude.{◌≡◌, ℕ, Bool, false, true, List, Option, None, IfSome}
use Rattle.keyed_text.specs.declared.style.Style.{Style}
use Rattle.keyed_requests.specs.AnswerForm.{in_style}
use Rattle.keyed_requests.specs.declared.request.Form.{Form}
use Rattle.keyed_requests.specs.declared.request.Settings.{Settings}
use Rattle.keyed_files.specs.Gone.{CameOf, GoneOf, LeaveOf}
use Rattle.keyed_columns.specs.Keys.{AreChangedColumnsBy}
use Rattle.keyed_columns.specs.Spelled.{IsSpelledAs, SpelledOf}
use Rattle.keyed_columns.specs.declared.columns.Columns.{Columns}
use Rattle.keyed_columns.specs.declared.content.Content.TheVariants.{Changes, Rows}
use Rattle.keyed_files.specs.Opening.{form_of, text_of_stream}
use Rattle.keyed_files.specs.declared.opened.Stream.{Stream}
use Rattle.keyed_files.specs.declared.opened.Two.{Two}
use Rattle.keyed_requests.specs.declared.request.Direction.{Direction}
use Rattle.keyed_tables.specs.Arranged.{noted}
use Rattle.keyed_jobs.specs.Answers.{AllFit, AnswersPatched, Stops, TableChanges, TableRows, key_cmp}
use Rattle.keyed_jobs.specs.ChangesRead.{ReadsChanges, SaysChanges}
use Rattle.keyed_jobs.specs.Rejected.{plain}
use Rattle.keyed_jobs.specs.FileOrder.{AreKeysOfBoth, NotesBoth, noted_with}
use Rattle.keyed_jobs.specs.MadeChanges.{made_in}
use Rattle.keyed_jobs.specs.NotedStyles.{IsStyleBy, IsStyleOf}
use Rattle.keyed_jobs.specs.TablesRead.{AreNamesBy, IsUnordered, ReadsTable, SaysTable}
use Rattle.keyed_jobs.specs.declared.answer.Answer.{Answer}
use Rattle.keyed_jobs.specs.declared.job.Job.{Job}
use Rattle.keyed_jobs.specs.declared.rejected.ChangesForm.{ChangesForm}
use Rattle.keyed_commands.specs.PartlyAnswers.{AnswersPartly}
use Rattle.keyed_commands.specs.declared.commands.partly.Partly.{Partly}

-- the table with changes made to it where each of them fits, and else a report with status 1
pub record AnswersApplied (form : Form) (columns : Columns) (keys : Option (List (List (List ℕ)))) (by_cells : Bool)
    (old : TableRows) (changes : TableChanges) (answer : Answer) : Type 0 where
  pub fits : AllFit key_cmp old changes → AnswersPatched form columns keys by_cells old changes answer
  pub misfits : (AllFit key_cmp old changes → ⊥) → Stops answer

-- what is said of an answer by the form and the columns with which it is written, the keys that are noted and whether groups have the order
-- of cells, the table and the changes
abbrev pub OfChanges : Type 1
OfChanges = Form → Columns → Option (List (List (List ℕ))) → Bool → TableRows → TableChanges → Type 0

-- the same, written in a style of which this is said, with the order in which rows come out
pub record AppliedIn (holds : OfChanges) (IsStyled : Style → Type 0) (form : Form) (columns : Columns) (unordered : Type 0) (old : TableRows) (changes : TableChanges) : Type 0 where
  pub style : Style
  pub styled : IsStyled style
  pub keys : Option (List (List (List ℕ)))
  pub by_cells : Bool
  pub applied : holds (in_style style form) columns keys by_cells old changes
  pub order : unordered → (keys ≡ None) × (by_cells ≡ true)

-- what is answered of two texts: the first says a table and the second one changes, under the columns of the table that they make, of
-- which those go that the header of changes says, and whose heading is spelled as the header of the first text is, in the style of that text;
-- backward, each change is turned about, and the columns go that came; where the changes do not name each column of the table, they have its
-- cells in the others
pub record ChangesTexts (holds : OfChanges) (settings : Settings) (direction : Direction) (old_form changes_form : Form) (old_text changes_text : List ℕ) : Type 0 where
  pub columns : Columns
  pub header : List (List ℕ)
  pub names : List (List ℕ)
  pub changes_header : List (List ℕ)
  pub gone : List (List ℕ)
  pub named : AreNamesBy settings header names
  pub columned : AreChangedColumnsBy settings.key names changes_header gone columns
  pub old : TableRows
  pub changes : TableChanges
  pub old_says : SaysTable old_form Rows settings.groups old_text header names columns old
  pub changes_say : SaysChanges changes_form settings.groups changes_text changes_header changes_header columns changes
  pub gone_said : LeaveOf direction changes_form changes_text gone
  pub spelled : List (List ℕ)
  pub spelled_said : SpelledOf old_form Rows old_text spelled
  pub spells : IsSpelledAs header spelled columns
  pub headed : old_form.has_header ≡ settings.form.has_header
  pub applied : AppliedIn holds (IsStyleOf old_form settings.form.writing.heading old_text) settings.form columns (settings.keeps_order ≡ false) old (made_in names changes_header columns direction old changes)
  pub ordered : AreKeysOfBoth old_form changes_form Changes old_text changes_text names changes_header columns columns noted_with settings.keeps_order applied.keys

-- what `apply` says of its answer
abbrev pub applies : Answer → OfChanges
applies answer = λ form columns keys by_cells old changes. AnswersApplied form columns keys by_cells old changes answer

-- what `apply` answers of two texts
abbrev pub AppliesTexts : Settings → Direction → Form → Form → List ℕ → List ℕ → Answer → Type 0
AppliesTexts settings direction old_form changes_form old_text changes_text answer =
    ChangesTexts (applies answer) settings direction old_form changes_form old_text changes_text

-- how changes of a text are written again: in the form in which they are read, with their header, in no style of a table, and with the
-- columns that their header says go and come
pub record AreWrittenAs (changes_form : Form) (changes_text : List ℕ) (how : ChangesForm) : Type 0 where
  pub form : how.form ≡ plain changes_form
  pub going : GoneOf changes_form changes_text how.going
  pub coming : CameOf changes_form changes_text how.coming

-- what `apply` answers of two texts where changes need not fit
abbrev pub PartlyTexts : Settings → Direction → Form → Form → List ℕ → List ℕ → Partly → Type 0
PartlyTexts settings direction old_form changes_form old_text changes_text partly = (how : ChangesForm) × AreWrittenAs changes_form changes_text how
    × ChangesTexts (AnswersPartly direction how partly) settings direction old_form changes_form old_text changes_text

module _ {R : Type 0} (remaining : R → Option (List ℕ)) where
  -- the same of a source of a table, whose text begins in this style, and one of changes
  pub record ChangesSources (holds : OfChanges) (job : Job Columns) (first_style : Style) (direction : Direction) (inputs : Two R) : Type 0 where
    pub old : TableRows
    pub changes : TableChanges
    pub old_read : ReadsTable remaining job.groups job.columns.now inputs.first.source.value old
    pub changes_read : ReadsChanges remaining job.groups job.columns.now inputs.next.source.value changes
    pub applied : AppliedIn holds (IsStyleBy job.form.writing.heading first_style) job.form job.columns.now (IsUnordered job) old
        (made_in inputs.first.source.value.header.names inputs.next.source.value.header.names job.columns.now direction old changes)
    pub notes : NotesBoth remaining Changes job.columns.now job.columns.now inputs.first.source.value inputs.next.source.value noted_with (noted job.order)
        applied.keys

  abbrev pub AppliesSources : Job Columns → Style → Direction → Two R → Answer → Type 0
  AppliesSources job first_style direction inputs answer = ChangesSources (applies answer) job first_style direction inputs

  abbrev pub PartlySources : Job Columns → Style → ChangesForm → Direction → Two R → Partly → Type 0
  PartlySources job first_style how direction inputs partly = ChangesSources (AnswersPartly direction how partly) job first_style direction inputs

  -- and of two streams whose texts are known
  abbrev pub AppliesStreams : Settings → Direction → Stream R → Stream R → Answer → Type 0
  AppliesStreams settings direction old changes answer = IfSome (text_of_stream remaining settings.form old) (λ old_text.
      IfSome (text_of_stream remaining settings.form changes) (λ changes_text.
      AppliesTexts settings direction (form_of settings.form old) (form_of settings.form changes) old_text changes_text answer))

  abbrev pub PartlyStreams : Settings → Direction → Stream R → Stream R → Partly → Type 0
  PartlyStreams settings direction old changes partly = IfSome (text_of_stream remaining settings.form old) (λ old_text.
      IfSome (text_of_stream remaining settings.form changes) (λ changes_text.
      PartlyTexts settings direction (form_of settings.form old) (form_of settings.form changes) old_text changes_text partly))
