-- The file of a merged table in which the versions of each row in conflict stand between marks, as git writes them.
use Rattle.std.specs.Prelude.{◌≡◌, ◌==◌, ℕ, Bool, false, true, List, [], ◌++◌, Option, None, Some, MatchBool, codes, flat_map, length, replicate}
use Rattle.std.specs.List.{list_any}
use Rattle.eob_both.specs.Places.{item_left, item_right, left_place, right_place}
use Rattle.eob_joins.specs.Marked.{GivesNothing, IsMarkedMerge, can_nothing, settled_value}
use Rattle.eob_joins.specs.Tables.{kept}
use Rattle.eob_joins.specs.declared.marked.Marked.{Marked}
use Rattle.eob_joins.specs.declared.marked.Marked.TheVariants.{Settled, Unresolved}
use Rattle.csv.specs.Writing.{end_text}
use Rattle.keyed_text.specs.Texts.{finished, terminator_of}
use Rattle.keyed_numbers.specs.declared.alike.Alike.{Alike}
use Rattle.keyed_requests.specs.FormBytes.{delimiter_of}
use Rattle.keyed_requests.specs.declared.merging.Unit.{Unit}
use Rattle.keyed_requests.specs.declared.merging.Unit.TheVariants as unit
use Rattle.keyed_requests.specs.declared.request.Form.{Form}
use Rattle.keyed_columns.specs.Alikes.{as_they_stand}
use Rattle.keyed_columns.specs.Lost.{count_written}
use Rattle.keyed_columns.specs.declared.columns.Columns.{Columns}
use Rattle.keyed_columns.specs.declared.columns.Place.{Place}
use Rattle.keyed_files.specs.Rows.{heading, rows_under}
use Rattle.keyed_files.specs.Writing.{Wrote, quoted_first, text_of}
use Rattle.keyed_tables.specs.RowsByCell.{GivesRow, can_by_row}
use Rattle.keyed_jobs.specs.Answers.{AnswersTable, Stops, TableRows, key_cmp, rows_eq}
use Rattle.keyed_jobs.specs.ComeOut.{AlikeMarked, ComesOut}
use Rattle.keyed_jobs.specs.ConflictCells.{ThreeGroups, told_by}
use Rattle.keyed_jobs.specs.declared.answer.Answer.{Answer}
use Rattle.keyed_jobs.specs.declared.answer.Outcome.TheVariants.{Made}
use Rattle.keyed_jobs.specs.declared.marks.Text.{Text}

-- what a merge makes of each key: its merged rows, or its versions, which are in conflict
abbrev pub MarkedRows : Type 0
MarkedRows = List (List (List ℕ) × Marked (List (List (List ℕ))))

abbrev pub is_in_conflict : {V : Type 0} → Marked V → Bool
is_in_conflict (Settled rows) = false
is_in_conflict (Unresolved versions) = true

-- whether a key is in conflict
abbrev pub has_conflict : {K V : Type 0} → List (K × Marked V) → Bool
has_conflict rows = list_any (λ row. is_in_conflict row.1) rows

-- the lines before the rows of ours, of the base and of theirs, and the one after them
abbrev pub ours_mark : List ℕ
ours_mark = codes "<<<<<<< ours"

abbrev pub base_mark : List ℕ
base_mark = codes "||||||| base"

abbrev pub theirs_mark : List ℕ
theirs_mark = codes "======="

abbrev pub end_mark : List ℕ
end_mark = codes ">>>>>>> theirs"

module _ (form : Form) where
  -- a line that is no row: it has no quotes in any style
  abbrev pub line_text : List ℕ → List ℕ
  line_text line = line ++ end_text (terminator_of form.writing.style.line_end)

  -- the bytes of a text in the making: those that stay as they are, and those of the rows after them
  pub record HasText (bytes : List ℕ) (text : Text) : Type 0 where
    pub rows : List (List (List ℕ))
    pub wrote : Wrote form rows text.written
    pub are : bytes ≡ text.bytes.items ++ text_of form rows

  -- whatever bytes a text had, these come after them
  abbrev pub PutsText : Text → Text → List ℕ → Type 0
  PutsText old new more = (bytes : List ℕ) → HasText bytes old → HasText (bytes ++ more) new

  -- all bytes of a text stay as they are
  abbrev pub KeepsText : Text → Text → Type 0
  KeepsText old new = (bytes : List ℕ) → HasText bytes old → (new.bytes.items ≡ bytes) × Wrote form [] new.written

  module _ (order : List Place) where
    -- the text of the rows under a key
    abbrev pub group_text : List (List ℕ) → List (List (List ℕ)) → List ℕ
    group_text key rows = text_of form (rows_under None order key rows)

    -- the same of a version, which has none where the key is not in it
    abbrev pub version_text : List (List ℕ) → Option (List (List (List ℕ))) → List ℕ
    version_text key None = []
    version_text key (Some rows) = group_text key rows

    -- the text of the versions of a key between marks
    abbrev pub versions_text : List (List ℕ) → ThreeGroups → List ℕ
    versions_text key versions = line_text ours_mark ++ (version_text key (item_left (right_place versions))
        ++ (line_text base_mark ++ (version_text key (left_place versions)
        ++ (line_text theirs_mark ++ (version_text key (item_right (right_place versions)) ++ line_text end_mark)))))

    module _ (by : Unit) (alikes : List Alike) where
      -- the text of a key: its rows, or its versions as they are told, which by cell differ in the cells in conflict alone
      abbrev pub marked_text : List (List ℕ) → Marked (List (List (List ℕ))) → List ℕ
      marked_text key (Settled rows) = group_text key rows
      marked_text key (Unresolved versions) = versions_text key (told_by by alikes versions)

      -- the same of each key, in their order
      abbrev pub marked_rows_text : MarkedRows → List ℕ
      marked_rows_text rows = flat_map (λ row. marked_text row.0 row.1) rows

  -- the file of a table: its heading, and then the text of each key, with the byte order mark of its style and with the end of the last line,
  -- or without
  abbrev pub marked_file : Columns → Unit → List Alike → MarkedRows → List ℕ
  marked_file columns by alikes rows = finished form.writing.style (quoted_first (delimiter_of form)
      (text_of form (heading form None columns) ++ marked_rows_text columns.order.items by alikes rows))

-- whether no column goes
abbrev pub has_all_columns : Columns → Bool
has_all_columns columns = count_written columns == length columns.rest

module _ (form : Form) (columns : Columns) (noted : Option (List (List (List ℕ)))) (by_cells : Bool) (by : Unit) (alikes : List Alike) where
  -- a text is the file of a merged table with its marks
  abbrev pub IsMarkedFile : MarkedRows → List ℕ → Type 0
  IsMarkedFile rows text = (shown : MarkedRows) × ComesOut noted by_cells AlikeMarked rows shown × (text ≡ marked_file form columns by alikes shown)

  -- an answer has the file of rows of which some are in conflict
  abbrev pub AnswersMarkedFile : MarkedRows → Answer → Type 0
  AnswersMarkedFile rows answer = (answer.status ≡ 1) × (answer.outcome ≡ Made) × IsMarkedFile rows answer.bytes.items

  -- what is answered of merged rows: their table where none is in conflict, and else the file with marks, unless a column goes
  abbrev pub AnswersMarks : MarkedRows → Answer → Type 0
  AnswersMarks rows answer = MatchBool (has_conflict rows)
      (MatchBool (has_all_columns columns) (AnswersMarkedFile rows answer) (Stops answer))
      (AnswersTable form columns noted by_cells (kept settled_value rows) answer)

-- what a merge of three versions makes of each key, in the order of the keys: by row, or with each cell of a row merged
abbrev pub IsMarkedBy : Unit → TableRows → TableRows → TableRows → MarkedRows → Type 0
IsMarkedBy unit.Row base ours theirs rows = IsMarkedMerge key_cmp rows_eq can_nothing GivesNothing base ours theirs rows
IsMarkedBy unit.Cell base ours theirs rows = IsMarkedMerge key_cmp rows_eq can_by_row GivesRow base ours theirs rows

-- the cells of all columns beside the key are compared as they stand
abbrev pub all_as_they_stand : Columns → List Alike
all_as_they_stand columns = replicate (length columns.rest) as_they_stand
