-- What `merge` answers of the texts of three versions of a table.
use Rattle.std.specs.Prelude.{◌≡◌, ℕ, Bool, false, true, List, Option, None, IfSome}
use Rattle.keyed_text.specs.declared.style.Style.{Style}
use Rattle.keyed_requests.specs.AnswerForm.{in_style}
use Rattle.keyed_requests.specs.declared.merging.Conflicts.{Conflicts}
use Rattle.keyed_requests.specs.declared.merging.Conflicts.TheVariants.{Marks, Prefer, Report}
use Rattle.keyed_requests.specs.declared.merging.Side.{Side}
use Rattle.keyed_requests.specs.declared.merging.Unit.{Unit}
use Rattle.keyed_requests.specs.declared.merging.Unit.TheVariants as unit
use Rattle.keyed_requests.specs.declared.request.Form.{Form}
use Rattle.keyed_requests.specs.declared.request.Settings.{Settings}
use Rattle.keyed_numbers.specs.declared.alike.Alike.{Alike}
use Rattle.keyed_columns.specs.Keys.{AreMergedColumnsBy}
use Rattle.keyed_columns.specs.Spelled.{IsSpelledAs, SpelledOf}
use Rattle.keyed_columns.specs.declared.columns.Columns.{Columns}
use Rattle.keyed_columns.specs.declared.content.Content.TheVariants.{Rows}
use Rattle.keyed_files.specs.Opening.{form_of, text_of_stream}
use Rattle.keyed_files.specs.declared.opened.Opened.{Opened}
use Rattle.keyed_files.specs.declared.opened.Stream.{Stream}
use Rattle.keyed_files.specs.declared.opened.Two.{Two}
use Rattle.keyed_tables.specs.Arranged.{noted}
use Rattle.keyed_jobs.specs.Answers.{AnswersMerged, AnswersMergedByCell, AnswersTable, HasConflict, HasNoConflict, HasNoneUnresolved, HasUnresolved, Stops, TableRows}
use Rattle.keyed_jobs.specs.FileOrder.{AreKeysOfBoth, NotesBoth, placed_with}
use Rattle.keyed_jobs.specs.MarkedText.{AnswersMarks, IsMarkedBy, MarkedRows, all_as_they_stand}
use Rattle.keyed_jobs.specs.NotedStyles.{IsStyleBy, IsStyleOf}
use Rattle.keyed_jobs.specs.Preferred.{rows_by_side}
use Rattle.keyed_jobs.specs.TablesRead.{AreNamesBy, IsUnordered, ReadsTable, SaysTable}
use Rattle.keyed_jobs.specs.declared.answer.Answer.{Answer}
use Rattle.keyed_jobs.specs.declared.job.Job.{Job}

module _ (form : Form) (columns : Columns) (keys : Option (List (List (List ℕ)))) (by_cells : Bool) (base ours theirs : TableRows) (answer : Answer) where
  -- the merged table exactly where no row is in conflict, and else a report with status 1
  pub record AnswersByRow : Type 0 where
    pub whole : HasNoConflict base ours theirs → AnswersMerged form columns keys by_cells base ours theirs answer
    pub conflict : HasConflict base ours theirs → Stops answer

  -- the same where rows are merged by cell
  pub record AnswersByCell : Type 0 where
    pub whole : HasNoneUnresolved base ours theirs → AnswersMergedByCell form columns keys by_cells base ours theirs answer
    pub conflict : HasUnresolved base ours theirs → Stops answer

  abbrev pub AnswersBy : Unit → Type 0
  AnswersBy unit.Row = AnswersByRow
  AnswersBy unit.Cell = AnswersByCell

  module _ (alikes : List Alike) where
    -- what becomes of each key, with the rows in conflict between marks, or as a side has them
    abbrev pub AnswersInMarks : Unit → Type 0
    AnswersInMarks by = (rows : MarkedRows) × IsMarkedBy by base ours theirs rows × AnswersMarks form columns keys by_cells by alikes rows answer

    abbrev pub AnswersBySide : Unit → Side → Type 0
    AnswersBySide by side = (rows : MarkedRows) × IsMarkedBy by base ours theirs rows
        × AnswersTable form columns keys by_cells (rows_by_side by alikes side rows) answer

-- what is answered as it is asked for, where the cells of each column are compared so
module _ (form : Form) (columns : Columns) (keys : Option (List (List (List ℕ)))) (by_cells : Bool) (base ours theirs : TableRows) (alikes : List Alike) (answer : Answer) (by : Unit) where
  abbrev pub AnswersAs : Conflicts → Type 0
  AnswersAs Report = AnswersBy form columns keys by_cells base ours theirs answer by
  AnswersAs Marks = AnswersInMarks form columns keys by_cells base ours theirs answer alikes by
  AnswersAs (Prefer side) = AnswersBySide form columns keys by_cells base ours theirs answer alikes by side

-- the same, written in a style of which this is said, with the order in which rows come out
pub record MergedIn (conflicts : Conflicts) (by : Unit) (IsStyled : Style → Type 0) (form : Form) (columns : Columns) (unordered : Type 0) (base ours theirs : TableRows) (answer : Answer) : Type 0 where
  pub style : Style
  pub styled : IsStyled style
  pub keys : Option (List (List (List ℕ)))
  pub by_cells : Bool
  pub merged : AnswersAs (in_style style form) columns keys by_cells base ours theirs (all_as_they_stand columns) answer by conflicts
  pub order : unordered → (keys ≡ None) × (by_cells ≡ true)

-- what `merge` answers of three texts, each of which says a table under the columns of the three, where rows in conflict are put so; their
-- heading is spelled as the header of ours is, in the style of that text
pub record MergesTexts (conflicts : Conflicts) (by : Unit) (settings : Settings) (base_form ours_form theirs_form : Form) (base_text ours_text theirs_text : List ℕ)
    (answer : Answer) : Type 0 where
  pub columns : Columns
  pub header : List (List ℕ)
  pub names : List (List ℕ)
  pub ours_header : List (List ℕ)
  pub theirs_header : List (List ℕ)
  pub named : AreNamesBy settings header names
  pub columned : AreMergedColumnsBy settings.key names ours_header theirs_header columns
  pub base : TableRows
  pub ours : TableRows
  pub theirs : TableRows
  pub base_says : SaysTable base_form Rows settings.groups base_text header names columns base
  pub ours_say : SaysTable ours_form Rows settings.groups ours_text ours_header ours_header columns ours
  pub theirs_say : SaysTable theirs_form Rows settings.groups theirs_text theirs_header theirs_header columns theirs
  pub spelled : List (List ℕ)
  pub spelled_said : SpelledOf ours_form Rows ours_text spelled
  pub spells : IsSpelledAs ours_header spelled columns
  pub headed : ours_form.has_header ≡ settings.form.has_header
  pub merged : MergedIn conflicts by (IsStyleOf ours_form settings.form.writing.heading ours_text) settings.form columns (settings.keeps_order ≡ false) base ours theirs answer
  pub ordered : AreKeysOfBoth ours_form theirs_form Rows ours_text theirs_text ours_header theirs_header columns columns placed_with settings.keeps_order merged.keys

module _ {R : Type 0} (remaining : R → Option (List ℕ)) where
  -- the same of sources of three versions, of which the text of ours begins in this style
  pub record MergesSources (conflicts : Conflicts) (by : Unit) (job : Job Columns) (first_style : Style) (base_source : Opened R) (sides : Two R) (answer : Answer) : Type 0 where
    pub base : TableRows
    pub ours : TableRows
    pub theirs : TableRows
    pub base_read : ReadsTable remaining job.groups job.columns.now base_source.source.value base
    pub ours_read : ReadsTable remaining job.groups job.columns.now sides.first.source.value ours
    pub theirs_read : ReadsTable remaining job.groups job.columns.now sides.next.source.value theirs
    pub merged : MergedIn conflicts by (IsStyleBy job.form.writing.heading first_style) job.form job.columns.now (IsUnordered job) base ours theirs answer
    pub notes : NotesBoth remaining Rows job.columns.now job.columns.now sides.first.source.value sides.next.source.value placed_with (noted job.order) merged.keys

  -- and of three streams whose texts are known
  abbrev pub MergesStreams : Conflicts → Unit → Settings → Stream R → Stream R → Stream R → Answer → Type 0
  MergesStreams conflicts by settings base ours theirs answer = IfSome (text_of_stream remaining settings.form base) (λ base_text.
      IfSome (text_of_stream remaining settings.form ours) (λ ours_text. IfSome (text_of_stream remaining settings.form theirs) (λ theirs_text.
      MergesTexts conflicts by settings (form_of settings.form base) (form_of settings.form ours) (form_of settings.form theirs)
      base_text ours_text theirs_text answer)))
