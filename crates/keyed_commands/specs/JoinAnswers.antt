-- What `join` answers: the rows of a join of two tables, and their text.
use Rattle.std.specs.Prelude.{◌≡◌, ℕ, Bool, false, true, List, [], ◌∷◌, ◌++◌, Option, None, Some, IfSome, if◌then◌else◌}
use Rattle.std.specs.List.{flat_map}
use Rattle.either_or_both.specs.Prelude.{left_place, right_place}
use Rattle.eob_both.specs.declared.either_or_both.EitherOrBoth.{EitherOrBoth}
use Rattle.eob_both.specs.declared.either_or_both.EitherOrBoth.TheVariants.{Left, Both, Right}
use Rattle.either_or_both.specs.Join.{IsJoin}
use Rattle.eob_joins.specs.Tables.{IsAntiJoin, IsInnerJoin, IsLeftJoin, IsRightJoin, IsSemiJoin}
use Rattle.keyed_requests.specs.AnswerForm.{writes_heading}
use Rattle.keyed_requests.specs.declared.request.Form.{Form}
use Rattle.keyed_requests.specs.declared.request.Joining.{Joining}
use Rattle.keyed_requests.specs.declared.request.Kind.{Kind}
use Rattle.keyed_requests.specs.declared.request.Kind.TheVariants as kind
use Rattle.keyed_requests.specs.declared.request.RowFormat.{RowFormat}
use Rattle.keyed_requests.specs.declared.request.RowFormat.TheVariants as format
use Rattle.keyed_requests.specs.declared.request.Settings.{Settings}
use Rattle.keyed_columns.specs.JoinedNames.{joined_names}
use Rattle.keyed_columns.specs.Keys.{AreJoinColumns}
use Rattle.keyed_columns.specs.Names.{repeats}
use Rattle.keyed_columns.specs.Placed.{first_cells}
use Rattle.keyed_columns.specs.declared.columns.JoinColumns.{JoinColumns}
use Rattle.keyed_columns.specs.declared.content.Content.TheVariants.{Rows}
use Rattle.keyed_files.specs.JoinedRows.{each_before, join_heading, side_count, side_row}
use Rattle.keyed_files.specs.Opening.{form_of, text_of_stream}
use Rattle.keyed_files.specs.Writing.{PutsRows, quoted_text}
use Rattle.keyed_files.specs.declared.opened.Stream.{Stream}
use Rattle.keyed_files.specs.declared.opened.Two.{Two}
use Rattle.keyed_files.specs.declared.written.Written.{Written}
use Rattle.keyed_tables.specs.Arranged.{noted}
use Rattle.keyed_jobs.specs.Answers.{IsTableText, TableRows, key_cmp}
use Rattle.keyed_jobs.specs.ComeOut.{AlikeIn, AlikePlace, AlikePlaces, AlikeRows, ComesOut, HasGroups}
use Rattle.keyed_jobs.specs.FileOrder.{AreKeysOfBoth, NotesBoth, noted_with}
use Rattle.keyed_jobs.specs.TablesRead.{IsUnordered, ReadsTable, SaysTable}
use Rattle.keyed_jobs.specs.declared.answer.Answer.{Answer}
use Rattle.keyed_jobs.specs.declared.answer.Outcome.TheVariants.{Made}
use Rattle.keyed_jobs.specs.declared.job.Job.{Job}

-- what a row of a join has: a cell before its key, if there is one, and the rows of each side
pub record RowSides : Type 0 where
  pub first : Option (List ℕ)
  pub left : Option (List (List (List ℕ)))
  pub right : Option (List (List (List ℕ)))

-- the cell that tells which tables have a row: `left`, `both` or `right`
abbrev pub side_name : {A B : Type 0} → EitherOrBoth A B → List ℕ
side_name (Left a) = 108 ∷ 101 ∷ 102 ∷ 116 ∷ []
side_name (Both a b) = 98 ∷ 111 ∷ 116 ∷ 104 ∷ []
side_name (Right b) = 114 ∷ 105 ∷ 103 ∷ 104 ∷ 116 ∷ []

-- what rows of an outer, an inner, a left and a right join have
abbrev pub outer_sides : EitherOrBoth (List (List (List ℕ))) (List (List (List ℕ))) → RowSides
outer_sides row = record { first = Some (side_name row); left = left_place row; right = right_place row }

abbrev pub inner_sides : List (List (List ℕ)) × List (List (List ℕ)) → RowSides
inner_sides row = record { first = None; left = Some row.0; right = Some row.1 }

abbrev pub left_sides : List (List (List ℕ)) × Option (List (List (List ℕ))) → RowSides
left_sides row = record { first = None; left = Some row.0; right = row.1 }

abbrev pub right_sides : Option (List (List (List ℕ))) × List (List (List ℕ)) → RowSides
right_sides row = record { first = None; left = row.0; right = Some row.1 }

-- two such rows are alike: each side has the same rows in another order
abbrev pub AlikeBoth : List (List (List ℕ)) × List (List (List ℕ)) → List (List (List ℕ)) × List (List (List ℕ)) → Type 0
AlikeBoth row other = AlikeRows row.0 other.0 × AlikeRows row.1 other.1

abbrev pub AlikeLeft : List (List (List ℕ)) × Option (List (List (List ℕ))) → List (List (List ℕ)) × Option (List (List (List ℕ))) → Type 0
AlikeLeft row other = AlikeRows row.0 other.0 × AlikePlace AlikeRows row.1 other.1

abbrev pub AlikeRight : Option (List (List (List ℕ))) × List (List (List ℕ)) → Option (List (List (List ℕ))) × List (List (List ℕ)) → Type 0
AlikeRight row other = AlikePlace AlikeRows row.0 other.0 × AlikeRows row.1 other.1

module _ (columns : JoinColumns) (key : List (List ℕ)) (sides : RowSides) where
  -- a row of each side as one: the first cell if there is one, the key, and the other cells of both; an absent side has empty cells
  abbrev pub pair_row : ℕ → ℕ → List (List ℕ)
  pair_row left right = ((first_cells sides.first ++ key) ++ side_row sides.left left columns.left.rest) ++ side_row sides.right right columns.right.rest

  -- each row of the left side with each row of the right one
  abbrev pub rows_of_sides : List (List (List ℕ))
  rows_of_sides = each_before (λ left. each_before (λ right. pair_row left right ∷ []) (side_count sides.right)) (side_count sides.left)

module _ {V : Type 0} (columns : JoinColumns) (shows : V → RowSides) where
  -- the rows under a key, and those under all keys
  abbrev pub rows_shown : List (List ℕ) × V → List (List (List ℕ))
  rows_shown row = rows_of_sides columns row.0 (shows row.1)

  abbrev pub join_rows : List (List (List ℕ) × V) → List (List (List ℕ))
  join_rows rows = flat_map rows_shown rows

  -- the rows under a key are put, or those under several: in the order of cells, or each side's in another order
  module _ (by_cells : Bool) (alike : V → V → Type 0) (old new : Written) where
    abbrev pub PutsSides : List (List ℕ) × V → Type 0
    PutsSides row = (shown : V) × AlikeIn by_cells alike row.1 shown × PutsRows old new (rows_shown (row.0, shown))

    abbrev pub PutsJoin : List (List (List ℕ) × V) → Type 0
    PutsJoin rows = (shown : List (List (List ℕ) × V)) × HasGroups by_cells alike rows shown × PutsRows old new (join_rows shown)

-- the names of the columns that are written of these: those of CSV, and no other
abbrev pub names_as : RowFormat → List (List ℕ) → List (List ℕ)
names_as format.Csv names = names
names_as format.Json names = []

-- the names of the columns of a join as it is written: where tables have a header
abbrev pub header_of_join : Form → Joining → JoinColumns → List (List ℕ)
header_of_join form how columns = if form.has_header then names_as how.format (joined_names how.kind how.names columns) else []

-- the header of a join, where answers have a heading
abbrev pub heading_of_join : Form → List (List ℕ) → List (List (List ℕ))
heading_of_join form names = if writes_heading form then join_heading names else []

module _ (form : Form) (columns : JoinColumns) (names : List (List ℕ)) (noted : Option (List (List (List ℕ)))) (by_cells : Bool) where
  -- a text has the rows of a join as they come out, after its header
  abbrev pub IsTextOfJoin : {V : Type 0} → (V → RowSides) → (V → V → Type 0) → List (List (List ℕ) × V) → List ℕ → Type 0
  IsTextOfJoin {V} shows alike rows text = (shown : List (List (List ℕ) × V)) × ComesOut noted by_cells alike rows shown
      × (text ≡ quoted_text form (heading_of_join form names ++ join_rows columns shows shown))

  -- a text is that of the join of two tables, of its kind: a semi and an anti join have the cells of the left table alone
  abbrev pub IsJoinText : Kind → TableRows → TableRows → List ℕ → Type 0
  IsJoinText kind.Outer left right text = (rows : List (List (List ℕ) × EitherOrBoth (List (List (List ℕ))) (List (List (List ℕ)))))
      × IsJoin key_cmp left right rows × IsTextOfJoin outer_sides (AlikePlaces AlikeRows AlikeRows) rows text
  IsJoinText kind.Inner left right text = (rows : List (List (List ℕ) × (List (List (List ℕ)) × List (List (List ℕ)))))
      × IsInnerJoin key_cmp left right rows × IsTextOfJoin inner_sides AlikeBoth rows text
  IsJoinText kind.Left left right text = (rows : List (List (List ℕ) × (List (List (List ℕ)) × Option (List (List (List ℕ))))))
      × IsLeftJoin key_cmp left right rows × IsTextOfJoin left_sides AlikeLeft rows text
  IsJoinText kind.Right left right text = (rows : List (List (List ℕ) × (Option (List (List (List ℕ))) × List (List (List ℕ)))))
      × IsRightJoin key_cmp left right rows × IsTextOfJoin right_sides AlikeRight rows text
  IsJoinText kind.Semi left right text = (rows : TableRows) × IsSemiJoin key_cmp left right rows
      × IsTableText form columns.left noted by_cells rows text
  IsJoinText kind.Anti left right text = (rows : TableRows) × IsAntiJoin key_cmp left right rows
      × IsTableText form columns.left noted by_cells rows text

-- the text of a join under its header, and the order in which its rows come out
pub record JoinOf (form : Form) (kind : Kind) (names : List (List ℕ)) (columns : JoinColumns) (unordered : Type 0) (left right : TableRows) (text : List ℕ) : Type 0 where
  pub keys : Option (List (List (List ℕ)))
  pub by_cells : Bool
  pub join : IsJoinText form columns names keys by_cells kind left right text
  pub order : unordered → (keys ≡ None) × (by_cells ≡ true)

-- what `join` answers of two texts: each says a table under its columns, and the answer is the text of the join of both, under a header that
-- has no name twice
pub record JoinsTexts (settings : Settings) (how : Joining) (left_form right_form : Form) (left_text right_text : List ℕ) (answer : Answer) : Type 0 where
  pub columns : JoinColumns
  pub left_header : List (List ℕ)
  pub right_header : List (List ℕ)
  pub columned : AreJoinColumns settings.key left_header right_header columns
  pub left : TableRows
  pub right : TableRows
  pub left_says : SaysTable left_form Rows settings.groups left_text left_header left_header columns.left left
  pub right_says : SaysTable right_form Rows settings.groups right_text right_header right_header columns.right right
  pub once : settings.form.has_header ≡ true → repeats [] (joined_names how.kind how.names columns) ≡ false
  pub join : JoinOf settings.form how.kind (joined_names how.kind how.names columns) columns (settings.keeps_order ≡ false) left right answer.bytes.items
  pub ordered : AreKeysOfBoth left_form right_form Rows left_text right_text left_header right_header columns.left columns.right noted_with settings.keeps_order
      join.keys
  pub status : answer.status ≡ 0
  pub outcome : answer.outcome ≡ Made

module _ {R : Type 0} (remaining : R → Option (List ℕ)) where
  -- an answer to `join` of two sources: the text of the join of their tables, under these names
  pub record JoinsSources (job : Job JoinColumns) (kind : Kind) (names : List (List ℕ)) (sides : Two R) (answer : Answer) : Type 0 where
    pub left : TableRows
    pub right : TableRows
    pub left_read : ReadsTable remaining job.groups job.columns.now.left sides.first.source.value left
    pub right_read : ReadsTable remaining job.groups job.columns.now.right sides.next.source.value right
    pub join : JoinOf job.form kind names job.columns.now (IsUnordered job) left right answer.bytes.items
    pub notes : NotesBoth remaining Rows job.columns.now.left job.columns.now.right sides.first.source.value sides.next.source.value noted_with (noted job.order)
        join.keys
    pub status : answer.status ≡ 0
    pub outcome : answer.outcome ≡ Made

  -- and of two streams whose texts are known
  abbrev pub JoinsStreams : Settings → Joining → Stream R → Stream R → Answer → Type 0
  JoinsStreams settings how left right answer = IfSome (text_of_stream remaining settings.form left) (λ left_text.
      IfSome (text_of_stream remaining settings.form right) (λ right_text.
      JoinsTexts settings how (form_of settings.form left) (form_of settings.form right) left_text right_text answer))
