-- What a command answers of tables in memory: the text of its rows, and its status.
use Rattle.std.specs.Prelude.{◌≡◌, ◌↔◌, ◌||◌, ℕ, Bool, true, false, List, ◌++◌, Option, None, Some, IfSome, MatchBool, nat_eq, if◌then◌else◌}
use Rattle.std.specs.Cmp.Lexicographic.{pointwise, slice_cmp}
use Rattle.std.specs.Option.{option_eq}
use Rattle.std.specs.Ordering.{nat_cmp}
use Rattle.std.specs.declared.cmp.Ordering.{Ordering}
use Rattle.either_or_both.specs.Prelude.{left_place}
use Rattle.eob_both.specs.declared.either_or_both.EitherOrBoth.{EitherOrBoth}
use Rattle.either_or_both.specs.Join.{Rising, value_under}
use Rattle.eob_joins.specs.Changes.{applied, changed}
use Rattle.eob_joins.specs.declared.versions.Merged.{Merged}
use Rattle.eob_joins.specs.declared.versions.Merged.TheVariants.{Whole, Conflicts}
use Rattle.eob_joins.specs.Settled.{Became, is_unresolved}
use Rattle.eob_joins.specs.Tables.{IsKeptOfJoin, Tabulates}
use Rattle.eob_joins.specs.Versions.{is_conflict, merged_place, verdict}
use Rattle.keyed_tables.specs.RowsByCell.{GivesRow, can_by_row}
use Rattle.keyed_jobs.specs.Lost.{loses}
use Rattle.keyed_requests.specs.declared.request.Form.{Form}
use Rattle.keyed_columns.specs.Names.{has_lone}
use Rattle.keyed_columns.specs.declared.column_changes.ColumnChanges.{ColumnChanges}
use Rattle.keyed_columns.specs.declared.columns.Columns.{Columns}
use Rattle.keyed_files.specs.Rows.{heading, table_rows}
use Rattle.keyed_files.specs.SpelledFiles.{IsFileIn}
use Rattle.keyed_files.specs.Writing.{file_text, text_of}
use Rattle.keyed_jobs.specs.declared.answer.Answer.{Answer}
use Rattle.keyed_jobs.specs.declared.answer.Outcome.TheVariants.{Made, Stopped}
use Rattle.keyed_jobs.specs.ChangeRows.{changes_heading, changes_rows}
use Rattle.keyed_jobs.specs.ComeOut.{AlikePlaces, AlikeRows, ComesOut}

-- the rows of a table by key, and changes by key
abbrev pub TableRows : Type 0
TableRows = List (List (List ℕ) × List (List (List ℕ)))

abbrev pub TableChanges : Type 0
TableChanges = List (List (List ℕ) × EitherOrBoth (List (List (List ℕ))) (List (List (List ℕ))))

-- the order of keys, as bytes cell by cell, and whether two groups have the same rows
abbrev pub key_cmp : List (List ℕ) → List (List ℕ) → Ordering
key_cmp = slice_cmp (slice_cmp nat_cmp)

abbrev pub rows_eq : List (List (List ℕ)) → List (List (List ℕ)) → Bool
rows_eq = pointwise (pointwise (pointwise nat_eq))

-- the status of a test: 0 where it holds, and else 1
abbrev pub status_of : Bool → ℕ
status_of holds = if holds then 0 else 1

-- an answer that is no table
abbrev pub Stops : Answer → Type 0
Stops answer = (answer.status ≡ 1) × (answer.outcome ≡ Stopped)

-- whether a column comes or goes
abbrev pub columns_differ : ColumnChanges → Bool
columns_differ changes = has_lone changes.before.now changes.after.now || has_lone changes.after.now changes.before.now

-- the status of `diff`: 0 exactly where both tables are the same and no column comes or goes, and else 1
abbrev pub IsDiffStatus : ColumnChanges → TableRows → TableRows → ℕ → Type 0
IsDiffStatus columns old new status = (same : Bool) × ((same ≡ true) ↔ ((old ≡ new) × (columns_differ columns ≡ false)))
    × (status ≡ status_of same)

-- each change fits: the rows that it is from are those that the table has under its key
abbrev pub AllFit : {K V : Type 0} → (K → K → Ordering) → List (K × V) → List (K × EitherOrBoth V V) → Type 0
AllFit {K} cmp old changes = (k : K) → IfSome (value_under cmp changes k) (λ change. left_place change ≡ value_under cmp old k)

-- the same of one change, if there is one, and of what a table has there
abbrev pub fits_place : {V : Type 0} → (V → V → Bool) → Option V → Option (EitherOrBoth V V) → Bool
fits_place eq has None = true
fits_place eq has (Some change) = option_eq eq (left_place change) has

-- the changes between two tables, as they come out: by the keys that are noted, and by whether groups have the order of cells
abbrev pub ChangesComeOut : Option (List (List (List ℕ))) → Bool → TableRows → TableRows → TableChanges → Type 0
ChangesComeOut noted by_cells old new shown = (changes : TableChanges) × IsKeptOfJoin key_cmp (changed rows_eq) old new changes
    × ComesOut noted by_cells (AlikePlaces AlikeRows AlikeRows) changes shown

module _ (form : Form) (columns : Columns) (noted : Option (List (List (List ℕ)))) (by_cells : Bool) where
  -- a text has the changes between two tables, after the heading of changes
  abbrev pub IsDiffText : List (List ℕ) → TableRows → TableRows → List ℕ → Type 0
  IsDiffText marked old new text = (shown : TableChanges) × ChangesComeOut noted by_cells old new shown
      × (text ≡ text_of form (changes_heading form marked ++ changes_rows columns.order.items shown))

  -- a text is the file of the rows of a table, after its heading
  abbrev pub IsTableText : TableRows → List ℕ → Type 0
  IsTableText rows text = (shown : TableRows) × ComesOut noted by_cells AlikeRows rows shown
      × (text ≡ file_text form (heading form None columns ++ table_rows columns.order.items shown))

  -- the same with each row in the style of the form or in a spelling of its own
  abbrev pub IsTableFile : TableRows → List ℕ → Type 0
  IsTableFile rows text = (shown : TableRows) × ComesOut noted by_cells AlikeRows rows shown
      × IsFileIn form (heading form None columns ++ table_rows columns.order.items shown) text

  -- an answer to a command that makes a table: its text, unless a cell would be lost
  abbrev pub AnswersTable : TableRows → Answer → Type 0
  AnswersTable rows answer = MatchBool (loses columns rows) (Stops answer)
      ((answer.status ≡ 0) × (answer.outcome ≡ Made) × IsTableFile rows answer.bytes.items)

  -- the same of the table with changes made to it
  abbrev pub AnswersPatched : TableRows → TableChanges → Answer → Type 0
  AnswersPatched old changes answer = (rows : TableRows) × IsKeptOfJoin key_cmp applied old changes rows × AnswersTable rows answer

  -- and of what a merge gives: the merged rows, or those in conflict
  abbrev pub AnswersMerge : {M : Type 0} → Merged (List (List ℕ)) (List (List (List ℕ))) M → Answer → Type 0
  AnswersMerge (Whole rows) answer = AnswersTable rows.items answer
  AnswersMerge (Conflicts rows) answer = Stops answer

  -- and of three versions merged
  abbrev pub AnswersMerged : TableRows → TableRows → TableRows → Answer → Type 0
  AnswersMerged base ours theirs answer = (rows : TableRows) × Tabulates key_cmp rows (λ k. merged_place rows_eq
      (value_under key_cmp base k) (value_under key_cmp ours k) (value_under key_cmp theirs k)) × AnswersTable rows answer

  -- and of three versions merged by cell
  abbrev pub AnswersMergedByCell : TableRows → TableRows → TableRows → Answer → Type 0
  AnswersMergedByCell base ours theirs answer = (rows : TableRows) × Rising key_cmp rows
      × ((k : List (List ℕ)) → Became rows_eq GivesRow (value_under key_cmp base k) (value_under key_cmp ours k)
      (value_under key_cmp theirs k) (value_under key_cmp rows k)) × AnswersTable rows answer

-- whether both sides changed what stands under a key, and not alike
abbrev pub clashes_at : TableRows → TableRows → TableRows → List (List ℕ) → Bool
clashes_at base ours theirs k = is_conflict (verdict rows_eq (value_under key_cmp base k) (value_under key_cmp ours k) (value_under key_cmp theirs k))

-- some key is in conflict
abbrev pub HasConflict : TableRows → TableRows → TableRows → Type 0
HasConflict base ours theirs = (k : List (List ℕ)) × (clashes_at base ours theirs k ≡ true)

abbrev pub HasNoConflict : TableRows → TableRows → TableRows → Type 0
HasNoConflict base ours theirs = (k : List (List ℕ)) → clashes_at base ours theirs k ≡ false

-- the same where rows are merged by cell: no rule settles the key
abbrev pub unresolved_at : TableRows → TableRows → TableRows → List (List ℕ) → Bool
unresolved_at base ours theirs k = is_unresolved rows_eq can_by_row (value_under key_cmp base k) (value_under key_cmp ours k) (value_under key_cmp theirs k)

abbrev pub HasUnresolved : TableRows → TableRows → TableRows → Type 0
HasUnresolved base ours theirs = (k : List (List ℕ)) × (unresolved_at base ours theirs k ≡ true)

abbrev pub HasNoneUnresolved : TableRows → TableRows → TableRows → Type 0
HasNoneUnresolved base ours theirs = (k : List (List ℕ)) → unresolved_at base ours theirs k ≡ false
