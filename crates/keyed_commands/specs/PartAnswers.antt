-- What is said of a part of two tables whose keys are strictly increasing, and so of the wholes.
use Rattle.std.specs.Prelude.{◌≡◌, ◌==◌, ◌++◌, ⊤, ℕ, List, Option, None, if◌then◌else◌, length}
use Rattle.std.specs.List.{flat_map}
use Rattle.eob_both.specs.declared.either_or_both.EitherOrBoth.{EitherOrBoth}
use Rattle.either_or_both.specs.Join.{IsJoin}
use Rattle.eob_joins.specs.Changes.{changed}
use Rattle.eob_joins.specs.Tables.{IsAntiJoin, IsInnerJoin, IsKeptOfJoin, IsLeftJoin, IsRightJoin, IsSemiJoin}
use Rattle.keyed_requests.specs.declared.request.Form.{Form}
use Rattle.keyed_requests.specs.declared.request.Kind.{Kind}
use Rattle.keyed_requests.specs.declared.request.Kind.TheVariants as kind
use Rattle.keyed_requests.specs.declared.request.RowFormat.TheVariants.{Csv}
use Rattle.keyed_requests.specs.declared.writing.Heading.TheVariants.{Omitted}
use Rattle.keyed_columns.specs.declared.columns.Columns.{Columns}
use Rattle.keyed_columns.specs.declared.columns.JoinColumns.{JoinColumns}
use Rattle.keyed_files.specs.Rows.{heading, table_rows}
use Rattle.keyed_files.specs.Writing.{file_text, quoted_text, text_of}
use Rattle.keyed_jobs.specs.Answers.{TableChanges, TableRows, key_cmp, rows_eq, status_of}
use Rattle.keyed_jobs.specs.ChangeRows.{changes_heading, changes_rows}
use Rattle.keyed_jobs.specs.TablesRead.{IsUnordered}
use Rattle.keyed_commands.specs.JoinAnswers.{heading_of_join, inner_sides, join_rows, left_sides, outer_sides, right_sides}
use Rattle.keyed_commands.specs.declared.sorted.ChangesForm.{ChangesForm}
use Rattle.keyed_commands.specs.declared.sorted.ChangesForm.TheVariants as way
use Rattle.keyed_commands.specs.declared.sorted.Work.{Work}
use Rattle.keyed_commands.specs.declared.sorted.Work.TheVariants as work

-- the changes between one table and another, by key, after the heading of changes where there is one; the status is 0 exactly where there are
-- none, and else 1
abbrev pub SaysChanges : Form → Columns → List (List ℕ) → TableRows → TableRows → List ℕ → ℕ → Type 0
SaysChanges form columns marked old new text status = (changes : TableChanges) × IsKeptOfJoin key_cmp (changed rows_eq) old new changes
    × (text ≡ text_of form (changes_heading form marked ++ changes_rows columns.order.items changes)) × (status ≡ status_of (length changes == 0))

-- what is said of changes as CSV
abbrev pub SaysChangesIn : Form → Columns → ChangesForm → TableRows → TableRows → List ℕ → ℕ → Type 0
SaysChangesIn form columns (way.Csv marked) old new text status = SaysChanges form columns marked old new text status
SaysChangesIn form columns (way.Json sameness) old new text status = ⊤

-- the rows that a join of two tables has, of its kind, in the order of their keys: a semi and an anti join have the cells of the left table alone
module _ (columns : JoinColumns) where
  abbrev pub AreJoinRows : Kind → TableRows → TableRows → List (List (List ℕ)) → Type 0
  AreJoinRows kind.Outer left right rows = (joined : List (List (List ℕ) × EitherOrBoth (List (List (List ℕ))) (List (List (List ℕ)))))
      × IsJoin key_cmp left right joined × (rows ≡ join_rows columns outer_sides joined)
  AreJoinRows kind.Inner left right rows = (joined : List (List (List ℕ) × (List (List (List ℕ)) × List (List (List ℕ)))))
      × IsInnerJoin key_cmp left right joined × (rows ≡ join_rows columns inner_sides joined)
  AreJoinRows kind.Left left right rows = (joined : List (List (List ℕ) × (List (List (List ℕ)) × Option (List (List (List ℕ))))))
      × IsLeftJoin key_cmp left right joined × (rows ≡ join_rows columns left_sides joined)
  AreJoinRows kind.Right left right rows = (joined : List (List (List ℕ) × (Option (List (List (List ℕ))) × List (List (List ℕ)))))
      × IsRightJoin key_cmp left right joined × (rows ≡ join_rows columns right_sides joined)
  AreJoinRows kind.Semi left right rows = (joined : TableRows) × IsSemiJoin key_cmp left right joined
      × (rows ≡ table_rows columns.left.order.items joined)
  AreJoinRows kind.Anti left right rows = (joined : TableRows) × IsAntiJoin key_cmp left right joined
      × (rows ≡ table_rows columns.left.order.items joined)

-- the heading of a join of its kind, where answers have one, and the text of some of its rows
abbrev pub heading_of_kind : Form → JoinColumns → List (List ℕ) → Kind → List (List (List ℕ))
heading_of_kind form columns names kind.Outer = heading_of_join form names
heading_of_kind form columns names kind.Inner = heading_of_join form names
heading_of_kind form columns names kind.Left = heading_of_join form names
heading_of_kind form columns names kind.Right = heading_of_join form names
heading_of_kind form columns names kind.Semi = heading form None columns.left
heading_of_kind form columns names kind.Anti = heading form None columns.left

abbrev pub text_of_kind : Form → Kind → List (List (List ℕ)) → List ℕ
text_of_kind form kind.Outer rows = quoted_text form rows
text_of_kind form kind.Inner rows = quoted_text form rows
text_of_kind form kind.Left rows = quoted_text form rows
text_of_kind form kind.Right rows = quoted_text form rows
text_of_kind form kind.Semi rows = file_text form rows
text_of_kind form kind.Anti rows = file_text form rows

-- the rows of a join after its heading, in parts: each part is written as a text of its own
abbrev pub SaysJoin : Form → JoinColumns → List (List ℕ) → Kind → TableRows → TableRows → List ℕ → Type 0
SaysJoin form columns names kind left right text = (rows : List (List (List ℕ))) × AreJoinRows columns kind left right rows
    × ((parts : List (List (List (List ℕ)))) × (flat_map (λ part. part) parts ≡ heading_of_kind form columns names kind ++ rows)
    × (text ≡ flat_map (text_of_kind form kind) parts))

-- what a work says as CSV of two tables, or of parts of them, and the status
abbrev pub SaysOf : Work → TableRows → TableRows → List ℕ → ℕ → Type 0
SaysOf (work.Changes job form) left right text status = SaysChangesIn job.form job.columns.now form left right text status
SaysOf (work.Join job form) left right text status = (form.format ≡ Csv
    → SaysJoin job.form job.columns.now form.header form.kind left right text) × (status ≡ 0)

-- the same form with no heading
abbrev pub unheaded : Form → Form
unheaded form = record form { writing = record form.writing { heading = Omitted } }

-- the same work on the parts after the first one, before which the heading stands
abbrev pub on_later : Work → Work
on_later (work.Changes job form) = work.Changes (record job { form = unheaded job.form }) form
on_later (work.Join job form) = work.Join (record job { form = unheaded job.form }) form

-- rows come out in the order of their keys, and those of a group in that of their cells
abbrev pub IsByKey : Work → Type 0
IsByKey (work.Changes job form) = ⊤
IsByKey (work.Join job form) = IsUnordered job

-- the columns of the left table of a work, and those of the right one
abbrev pub left_columns : Work → Columns
left_columns (work.Changes job form) = job.columns.now
left_columns (work.Join job form) = job.columns.now.left

abbrev pub right_columns : Work → Columns
right_columns (work.Changes job form) = job.columns.now
right_columns (work.Join job form) = job.columns.now.right

-- the status of two parts: that of the first, unless it is 0
abbrev pub status_both : ℕ → ℕ → ℕ
status_both status next = if status == 0 then next else status
