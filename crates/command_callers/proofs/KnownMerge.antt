-- What `merge` answers of three texts that are known.
use Rattle.std.proofs.Common.{◌≡◌, ◌∙◌, ◌==◌, ◌++◌, ℕ, Bool, Bor, false, true, List, [], ◌∷◌, filter, length, map, take, IsPermutation, Option, None, ap, subst, sym}
use Rattle.std.specs.Prelude.{◌&&◌, MatchBool, ⊤, ltb, replicate}
use Rattle.std.specs.List.{AllByRecursion, list_any}
use Rattle.eob_lists.specs.Join.{Rising, value_under}
use Rattle.eob_lists.proofs.MergeLemmas.{Up}
use Rattle.eob_joins.specs.Marked.{IsMarkedMerge, settled_value}
use Rattle.eob_joins.specs.Settled.{Became, BecameOf, unresolved_row}
use Rattle.eob_joins.specs.Tables.{Tabulates, kept}
use Rattle.eob_joins.specs.Versions.{clashes, merged, merged_place}
use Rattle.keyed_text.specs.Texts.{finished}
use Rattle.keyed_text.specs.declared.style.Style.{Style}
use Rattle.keyed_requests.specs.AnswerForm.{in_style}
use Rattle.keyed_requests.specs.FormBytes.{delimiter_of}
use Rattle.keyed_requests.specs.declared.merging.Conflicts.{Conflicts}
use Rattle.keyed_requests.specs.declared.merging.Conflicts.TheVariants.{Marks, Report}
use Rattle.keyed_requests.specs.declared.merging.Unit.{Unit}
use Rattle.keyed_requests.specs.declared.merging.Unit.TheVariants as unit
use Rattle.keyed_requests.specs.declared.request.Form.{Form}
use Rattle.keyed_requests.specs.declared.request.Settings.{Settings}
use Rattle.keyed_columns.specs.Alikes.{as_they_stand}
use Rattle.keyed_columns.specs.ChangedColumns.{AreMergedColumns, names_merged}
use Rattle.keyed_columns.specs.ColumnNames.{column_names, is_beside, or_header, place_under_key}
use Rattle.keyed_columns.specs.Keys.{AreMergedColumnsBy, first_name}
use Rattle.keyed_columns.specs.Lost.{is_rest, loses_cells}
use Rattle.keyed_columns.specs.declared.columns.Columns.{Columns}
use Rattle.keyed_columns.specs.declared.columns.Place.{Place}
use Rattle.keyed_files.specs.Rows.{heading}
use Rattle.keyed_files.specs.Writing.{quoted_first, text_of}
use Rattle.keyed_tables.specs.Gathered.{alone}
use Rattle.keyed_tables.specs.RowsByCell.{GivesRow, can_by_row}
use Rattle.keyed_jobs.specs.Answers.{AnswersMerged, AnswersTable, HasConflict, HasNoConflict, HasNoneUnresolved, HasUnresolved, IsTableFile, Stops, TableRows, clashes_at, key_cmp, rows_eq, unresolved_at}
use Rattle.keyed_jobs.specs.ComeOut.{AlikeMarked}
use Rattle.keyed_jobs.specs.ConflictCells.{ThreeGroups}
use Rattle.keyed_jobs.specs.Lost.{loses}
use Rattle.keyed_jobs.specs.MarkedText.{AnswersMarkedFile, AnswersMarks, IsMarkedBy, MarkedRows, all_as_they_stand, has_all_columns, has_conflict, marked_rows_text}
use Rattle.keyed_jobs.specs.declared.answer.Answer.{Answer}
use Rattle.keyed_jobs.specs.declared.answer.Outcome.TheVariants.{Made}
use Rattle.keyed_jobs.proofs.AnswerLemmas.{key_exact, key_total}
use Rattle.keyed_commands.specs.MergedTexts.{AnswersAs, AnswersByCell, AnswersByRow, MergesTexts}
use Rattle.keyed_laws.specs.MarkLaws.{MarksByKey}
use Rattle.command_callers.specs.Answered.{IsButForEnd, IsInStyle, IsMarkedInStyle}
use Rattle.command_callers.proofs.KnownCells.{gives_once, merged_by_cell, none_unresolved, settled_rows}
use Rattle.command_callers.proofs.KnownJoins.{merged_rows, no_conflict, three}
use Rattle.command_callers.proofs.KnownMarks.{IsValue, marked_of, marked_rows}
use Rattle.command_callers.proofs.KnownRows.{alone_rise}
use Rattle.command_callers.proofs.KnownStyles.{IsStyled, named_style}
use Rattle.command_callers.proofs.KnownTables.{HeadsPlainly, IsKnown, IsPlain, KeyedRows, came_out, header_is, heading_by, heading_shown, heads_plainly, names_are, plain_key, rows_by, table_is, IsTableFileOf, table_file_is}

-- the rows under a key
abbrev Group : Type 0
Group = List (List (List ℕ))

-- whether rows lose cells, by the columns that are written and the names beside the key
abbrev pub loses_by : List Place → (rest : List (List ℕ)) → TableRows → Bool
loses_by order rest rows = ltb (length (filter is_rest order)) (length rest) && list_any (λ row. loses_cells (length (filter is_rest order)) row.1) rows

-- an answer with a table of which no cell is lost
pub styled_table : {Of : Style → Type 0} (style : Style) → Of style → (form : Form) (columns : Columns) (keys : Option (List (List (List ℕ)))) (by_cells : Bool) (rows : TableRows) (answer : Answer) (order : List Place) (key rest : List (List ℕ))
    → columns.order.items ≡ order → columns.key ≡ key → columns.rest ≡ rest → (keys ≡ None) × (by_cells ≡ true) → HeadsPlainly (in_style style form) columns
    → loses_by order rest rows ≡ false
    → AnswersTable (in_style style form) columns keys by_cells rows answer → IsInStyle Of (λ s. IsTableFileOf (in_style s form) order key rest rows) answer
styled_table style styled form columns keys by_cells rows answer order key rest eo ek er plainly heads none h =
    let keeps : loses columns rows ≡ false = ap (λ o. loses_by o columns.rest rows) eo ∙ ap (λ r. loses_by order r rows) er ∙ none in
    let told : (answer.status ≡ 0) × (answer.outcome ≡ Made) × IsTableFile (in_style style form) columns keys by_cells rows answer.bytes.items =
    subst (λ b. MatchBool b (Stops answer) ((answer.status ≡ 0) × (answer.outcome ≡ Made) × IsTableFile (in_style style form) columns keys by_cells rows answer.bytes.items)) keeps h in
    record {
      style = style;
      styled = styled;
      bytes = table_file_is (in_style style form) columns keys by_cells rows answer.bytes.items order key rest eo ek er plainly heads told.2;
      status = told.0;
      outcome = told.1;
    }

-- and where cells are lost, the answer is a report
pub styled_loss : (form : Form) (columns : Columns) (keys : Option (List (List (List ℕ)))) (by_cells : Bool) (rows : TableRows) (answer : Answer) (order : List Place) (rest : List (List ℕ))
    → columns.order.items ≡ order → columns.rest ≡ rest → loses_by order rest rows ≡ true → AnswersTable form columns keys by_cells rows answer → Stops answer
styled_loss form columns keys by_cells rows answer order rest eo er some h =
    let lost : loses columns rows ≡ true = ap (λ o. loses_by o columns.rest rows) eo ∙ ap (λ r. loses_by order r rows) er ∙ some in
    subst (λ b. MatchBool b (Stops answer) ((answer.status ≡ 0) × (answer.outcome ≡ Made) × IsTableFile form columns keys by_cells rows answer.bytes.items)) lost h

-- the names of the columns of three versions
abbrev pub merge_key : (base ours theirs : List (List ℕ)) → List (List ℕ)
merge_key base ours theirs = first_name (base ∷ ours ∷ theirs ∷ [])

abbrev pub merge_written : (base ours theirs : List (List ℕ)) → List (List ℕ)
merge_written base ours theirs = names_merged base (or_header ours base) (or_header theirs base)

abbrev pub merge_names : (base ours theirs : List (List ℕ)) → List (List ℕ)
merge_names base ours theirs = column_names (merge_written base ours theirs ∷ base ∷ or_header ours base ∷ or_header theirs base ∷ [])

abbrev pub merge_rest : (base ours theirs : List (List ℕ)) → List (List ℕ)
merge_rest base ours theirs = filter (is_beside (merge_key base ours theirs)) (merge_names base ours theirs)

abbrev pub merge_order : (base ours theirs : List (List ℕ)) → List Place
merge_order base ours theirs = take (length (merge_written base ours theirs)) (map (place_under_key (merge_key base ours theirs)) (merge_names base ours theirs))

abbrev pub Written : (base ours theirs : List (List ℕ)) → Columns → Type 0
Written base ours theirs columns = AreMergedColumns (merge_key base ours theirs) base ours theirs columns

merge_columns : (key : Option (Bor (List ℕ))) (base ours theirs : List (List ℕ)) (columns : Columns) → key ≡ None → AreMergedColumnsBy key base ours theirs columns
    → Written base ours theirs columns
merge_columns key base ours theirs columns e h =
    subst (λ k. AreMergedColumns k base ours theirs columns) (plain_key key (base ∷ ours ∷ theirs ∷ []) h.first h.others e h.names).1 h.are

module _ {settings : Settings} {conflicts : Conflicts} {by : Unit} {base_form ours_form theirs_form : Form} {base_text ours_text theirs_text : List ℕ} {answer : Answer}
    (m : MergesTexts conflicts by settings base_form ours_form theirs_form base_text ours_text theirs_text answer) (plain : IsPlain settings)
    (base_fields ours_fields theirs_fields : List (List ℕ)) (base_records ours_records theirs_records : List (List (List ℕ)))
    (base_known : IsKnown base_form base_text base_fields base_records) (ours_known : IsKnown ours_form ours_text ours_fields ours_records)
    (theirs_known : IsKnown theirs_form theirs_text theirs_fields theirs_records)
    (base ours theirs : KeyedRows) (base_up : Up key_cmp (λ k. ⊤) base) (ours_up : Up key_cmp (λ k. ⊤) ours) (theirs_up : Up key_cmp (λ k. ⊤) theirs)
    (base_moved : IsPermutation (rows_by base_fields (merge_key base_fields ours_fields theirs_fields) (merge_rest base_fields ours_fields theirs_fields) base_records) base)
    (ours_moved : IsPermutation (rows_by ours_fields (merge_key base_fields ours_fields theirs_fields) (merge_rest base_fields ours_fields theirs_fields) ours_records) ours)
    (theirs_moved : IsPermutation (rows_by theirs_fields (merge_key base_fields ours_fields theirs_fields) (merge_rest base_fields ours_fields theirs_fields) theirs_records) theirs) where
  abbrev key : List (List ℕ)
  key = merge_key base_fields ours_fields theirs_fields

  abbrev rest : List (List ℕ)
  rest = merge_rest base_fields ours_fields theirs_fields

  abbrev order : List Place
  order = merge_order base_fields ours_fields theirs_fields

  base_names : m.names ≡ base_fields
  base_names = names_are settings plain m.header m.names m.named ∙ header_is base_form base_text base_fields base_records base_known settings.groups m.header m.names m.columns m.base m.base_says

  ours_names : m.ours_header ≡ ours_fields
  ours_names = header_is ours_form ours_text ours_fields ours_records ours_known settings.groups m.ours_header m.ours_header m.columns m.ours m.ours_say

  theirs_names : m.theirs_header ≡ theirs_fields
  theirs_names = header_is theirs_form theirs_text theirs_fields theirs_records theirs_known settings.groups m.theirs_header m.theirs_header m.columns m.theirs m.theirs_say

  pub columns_known : Written base_fields ours_fields theirs_fields m.columns
  columns_known =
      subst (λ n. Written n ours_fields theirs_fields m.columns) base_names
      (subst (λ n. Written m.names n theirs_fields m.columns) ours_names
      (subst (λ n. Written m.names m.ours_header n m.columns) theirs_names
      (merge_columns settings.key m.names m.ours_header m.theirs_header m.columns plain.key m.columned)))

  base_table : m.base ≡ map alone base
  base_table =
      table_is base_form base_text base_fields base_records base_known settings.groups m.header m.names m.columns m.base m.base_says
      base_fields key rest base base_names columns_known.key columns_known.rest base_moved base_up

  ours_table : m.ours ≡ map alone ours
  ours_table =
      table_is ours_form ours_text ours_fields ours_records ours_known settings.groups m.ours_header m.ours_header m.columns m.ours m.ours_say
      ours_fields key rest ours ours_names columns_known.key columns_known.rest ours_moved ours_up

  theirs_table : m.theirs ≡ map alone theirs
  theirs_table =
      table_is theirs_form theirs_text theirs_fields theirs_records theirs_known settings.groups m.theirs_header m.theirs_header m.columns m.theirs m.theirs_say
      theirs_fields key rest theirs theirs_names columns_known.key columns_known.rest theirs_moved theirs_up

  -- what holds of the three tables, and of what they are
  pub of_tables : (P : TableRows → TableRows → TableRows → Type 0) → P m.base m.ours m.theirs → P (map alone base) (map alone ours) (map alone theirs)
  of_tables P h =
      subst (λ t. P t (map alone ours) (map alone theirs)) base_table (subst (λ t. P m.base t (map alone theirs)) ours_table (subst (λ t. P m.base m.ours t) theirs_table h))

  from_tables : (P : TableRows → TableRows → TableRows → Type 0) → P (map alone base) (map alone ours) (map alone theirs) → P m.base m.ours m.theirs
  from_tables P h =
      subst (λ t. P t m.ours m.theirs) (sym base_table) (subst (λ t. P (map alone base) t m.theirs) (sym ours_table) (subst (λ t. P (map alone base) (map alone ours) t) (sym theirs_table) h))

  -- the form that the answer is written in
  abbrev made_in : Form
  made_in = in_style m.merged.style settings.form

  abbrev Answered : Conflicts → Unit → Type 0
  Answered on unit = AnswersAs made_in m.columns m.merged.keys m.merged.by_cells m.base m.ours m.theirs (all_as_they_stand m.columns) answer unit on

  answered : (on : Conflicts) (unit : Unit) → conflicts ≡ on → by ≡ unit → Answered on unit
  answered on unit asked is = subst (Answered on) is (subst (λ c. Answered c by) asked m.merged.merged)

  by_row : conflicts ≡ Report → by ≡ unit.Row → AnswersByRow made_in m.columns m.merged.keys m.merged.by_cells m.base m.ours m.theirs answer
  by_row asked is = answered Report unit.Row asked is

  -- the heading has the names of ours
  pub heads : HeadsPlainly made_in m.columns
  heads =
      heads_plainly ours_form settings.form m.merged.style ours_text ours_fields ours_records ours_known settings.groups m.ours_header m.ours_header m.spelled m.columns m.ours
      m.headed m.ours_say m.spelled_said m.spells

  base_rises : Rising key_cmp (map alone base)
  base_rises = alone_rise key_cmp key_total base base_up

  ours_rise : Rising key_cmp (map alone ours)
  ours_rise = alone_rise key_cmp key_total ours ours_up

  theirs_rise : Rising key_cmp (map alone theirs)
  theirs_rise = alone_rise key_cmp key_total theirs theirs_up

  abbrev pub merged_three : TableRows
  merged_three = kept (merged rows_eq) (three key_cmp (map alone base) (map alone ours) (map alone theirs))

  -- the rows of the three, none of which is in conflict, have a table of the merged rows
  module _ (whole : HasNoConflict m.base m.ours m.theirs → AnswersMerged made_in m.columns m.merged.keys m.merged.by_cells m.base m.ours m.theirs answer) where
    whole_table : (named : Style) → IsStyled ours_form settings.form.writing.heading ours_text named
        → AllByRecursion (λ z. clashes rows_eq z.1 ≡ false) (three key_cmp (map alone base) (map alone ours) (map alone theirs))
        → loses_by order rest merged_three ≡ false → IsInStyle (IsButForEnd named) (λ s. IsTableFileOf (in_style s settings.form) order key rest merged_three) answer
    whole_table named known settled none =
        let told = whole (from_tables HasNoConflict (no_conflict key_cmp key_total key_exact rows_eq (map alone base) (map alone ours) (map alone theirs) base_rises ours_rise theirs_rise settled)) in
        let are : told.0 ≡ merged_three =
        merged_rows key_cmp key_total key_exact rows_eq (map alone base) (map alone ours) (map alone theirs) base_rises ours_rise theirs_rise told.0
        (of_tables (λ b o t. Tabulates key_cmp told.0 (λ k. merged_place rows_eq (value_under key_cmp b k) (value_under key_cmp o k) (value_under key_cmp t k))) told.1) in
        styled_table m.merged.style (named_style ours_form settings.form.writing.heading ours_text named m.merged.style known m.merged.styled) settings.form m.columns m.merged.keys m.merged.by_cells merged_three answer order key rest
        columns_known.order columns_known.key columns_known.rest (m.merged.order plain.order) heads none
        (subst (λ r. AnswersTable made_in m.columns m.merged.keys m.merged.by_cells r answer) are told.2)

  -- where no row of the three is in conflict, the answer is the table of the merged rows
  pub merge_whole : (named : Style) → IsStyled ours_form settings.form.writing.heading ours_text named → conflicts ≡ Report → by ≡ unit.Row
      → AllByRecursion (λ z. clashes rows_eq z.1 ≡ false) (three key_cmp (map alone base) (map alone ours) (map alone theirs))
      → loses_by order rest merged_three ≡ false → IsInStyle (IsButForEnd named) (λ s. IsTableFileOf (in_style s settings.form) order key rest merged_three) answer
  merge_whole named known asked is settled none = whole_table (by_row asked is).whole named known settled none

  -- so too where it has marks, by what is said of these by key
  pub merge_unmarked : MarksByKey by made_in m.columns m.merged.keys m.merged.by_cells m.base m.ours m.theirs answer
      → (named : Style) → IsStyled ours_form settings.form.writing.heading ours_text named → by ≡ unit.Row
      → AllByRecursion (λ z. clashes rows_eq z.1 ≡ false) (three key_cmp (map alone base) (map alone ours) (map alone theirs))
      → loses_by order rest merged_three ≡ false → IsInStyle (IsButForEnd named) (λ s. IsTableFileOf (in_style s settings.form) order key rest merged_three) answer
  merge_unmarked marks named known is settled none =
      let said : MarksByKey unit.Row made_in m.columns m.merged.keys m.merged.by_cells m.base m.ours m.theirs answer =
      subst (λ u. MarksByKey u made_in m.columns m.merged.keys m.merged.by_cells m.base m.ours m.theirs answer) is marks in
      whole_table said.whole named known settled none

  -- and where one is, a report
  pub merge_stops : conflicts ≡ Report → by ≡ unit.Row → (k : List (List ℕ)) → clashes_at (map alone base) (map alone ours) (map alone theirs) k ≡ true → Stops answer
  merge_stops asked is k clash = (by_row asked is).conflict (from_tables HasConflict (k, clash))

  by_cell : conflicts ≡ Report → by ≡ unit.Cell → AnswersByCell made_in m.columns m.merged.keys m.merged.by_cells m.base m.ours m.theirs answer
  by_cell asked is = answered Report unit.Cell asked is

  -- the same of a merge by cell
  abbrev pub merged_cells_of_three : TableRows
  merged_cells_of_three = kept merged_by_cell (three key_cmp (map alone base) (map alone ours) (map alone theirs))

  pub merge_cells : (named : Style) → IsStyled ours_form settings.form.writing.heading ours_text named → conflicts ≡ Report → by ≡ unit.Cell
      → AllByRecursion (λ z. unresolved_row rows_eq can_by_row z.1 ≡ false) (three key_cmp (map alone base) (map alone ours) (map alone theirs))
      → AllByRecursion (λ z. BecameOf rows_eq GivesRow z.1 (merged_by_cell z.1)) (three key_cmp (map alone base) (map alone ours) (map alone theirs))
      → loses_by order rest merged_cells_of_three ≡ false → IsInStyle (IsButForEnd named) (λ s. IsTableFileOf (in_style s settings.form) order key rest merged_cells_of_three) answer
  merge_cells named known asked is settled became none =
      let free : HasNoneUnresolved m.base m.ours m.theirs =
      from_tables HasNoneUnresolved (none_unresolved rows_eq GivesRow gives_once key_cmp key_total key_exact (map alone base) (map alone ours) (map alone theirs)
      base_rises ours_rise theirs_rise can_by_row settled) in
      let told = (by_cell asked is).whole free in
      let are : told.0 ≡ merged_cells_of_three =
      settled_rows rows_eq GivesRow gives_once key_cmp key_total key_exact (map alone base) (map alone ours) (map alone theirs) base_rises ours_rise theirs_rise
      merged_by_cell became told.0 told.1
      (of_tables (λ b o t. (k : List (List ℕ)) → Became rows_eq GivesRow (value_under key_cmp b k) (value_under key_cmp o k) (value_under key_cmp t k) (value_under key_cmp told.0 k)) told.2) in
      styled_table m.merged.style (named_style ours_form settings.form.writing.heading ours_text named m.merged.style known m.merged.styled) settings.form m.columns m.merged.keys m.merged.by_cells merged_cells_of_three answer order key rest
      columns_known.order columns_known.key columns_known.rest (m.merged.order plain.order) heads none
      (subst (λ r. AnswersTable made_in m.columns m.merged.keys m.merged.by_cells r answer) are told.3)

  pub merge_unresolved : conflicts ≡ Report → by ≡ unit.Cell → (k : List (List ℕ)) → unresolved_at (map alone base) (map alone ours) (map alone theirs) k ≡ true → Stops answer
  merge_unresolved asked is k unresolved = (by_cell asked is).conflict (from_tables HasUnresolved (k, unresolved))

  -- a merge with marks by a rule that gives one value at most, and a function that gives the value of each row that is settled
  module _ (unit : Unit) (can : Option Group → Option Group → Option Group → Bool) (gives : Option Group → Option Group → Option Group → Group → Type 0)
      (once : (b p q : Option Group) (v w : Group) → gives b p q v → gives b p q w → v ≡ w) (f : ThreeGroups → Option Group)
      (marks : (b o t : TableRows) (rows : MarkedRows) → IsMarkedBy unit b o t rows → IsMarkedMerge key_cmp rows_eq can gives b o t rows) where
    -- what it makes of each key
    abbrev pub marked_three : MarkedRows
    marked_three = kept (marked_of rows_eq can f) (three key_cmp (map alone base) (map alone ours) (map alone theirs))

    -- the text of these, with the heading before it
    abbrev pub marked_lines : Form → List ℕ
    marked_lines form = text_of form (heading_by form order key rest) ++ marked_rows_text form order unit (replicate (length rest) as_they_stand) marked_three

    module _ (asked : conflicts ≡ Marks) (is : by ≡ unit)
        (values : AllByRecursion (λ z. IsValue rows_eq can gives once f z.1) (three key_cmp (map alone base) (map alone ours) (map alone theirs))) where
      told_marks : AnswersMarks made_in m.columns m.merged.keys m.merged.by_cells unit (all_as_they_stand m.columns) marked_three answer
      told_marks =
          let told = answered Marks unit asked is in
          subst (λ rows. AnswersMarks made_in m.columns m.merged.keys m.merged.by_cells unit (all_as_they_stand m.columns) rows answer)
          (marked_rows rows_eq can gives once f key_cmp key_total key_exact (map alone base) (map alone ours) (map alone theirs) base_rises ours_rise theirs_rise values told.0
          (of_tables (λ b o t. IsMarkedMerge key_cmp rows_eq can gives b o t told.0) (marks m.base m.ours m.theirs told.0 told.1))) told.2

      -- where a row is in conflict, and no column goes, the answer has marks
      marked_told : has_conflict marked_three ≡ true → (length (filter is_rest order) == length rest) ≡ true
          → AnswersMarkedFile made_in m.columns m.merged.keys m.merged.by_cells unit (all_as_they_stand m.columns) marked_three answer
      marked_told some all =
          let File : Type 0 = AnswersMarkedFile made_in m.columns m.merged.keys m.merged.by_cells unit (all_as_they_stand m.columns) marked_three answer in
          let has : has_all_columns m.columns ≡ true =
          ap (λ o. length (filter is_rest o) == length m.columns.rest) columns_known.order ∙ ap (λ r. length (filter is_rest order) == length r) columns_known.rest ∙ all in
          subst (λ b. MatchBool b File (Stops answer)) has
          (subst (λ b. MatchBool b (MatchBool (has_all_columns m.columns) File (Stops answer))
          (AnswersTable made_in m.columns m.merged.keys m.merged.by_cells (kept settled_value marked_three) answer)) some told_marks)

      pub merge_marked : (named : Style) → IsStyled ours_form settings.form.writing.heading ours_text named → has_conflict marked_three ≡ true
          → (length (filter is_rest order) == length rest) ≡ true → (text : List ℕ)
          → ((ends : Bool) → quoted_first (delimiter_of settings.form) (marked_lines (in_style (record named { has_end = ends }) settings.form)) ≡ text)
          → IsMarkedInStyle named text answer
      merge_marked named known some all text lines =
          let marked = marked_told some all in
          let file = marked.2 in
          let style = m.merged.style in
          let styled = named_style ours_form settings.form.writing.heading ours_text named style known m.merged.styled in
          let plain_cells = replicate (length rest) as_they_stand in
          let shown : file.0 ≡ marked_three = came_out m.merged.keys m.merged.by_cells AlikeMarked marked_three file.0 (m.merged.order plain.order) file.1 in
          let inner : text_of made_in (heading made_in None m.columns) ++ marked_rows_text made_in m.columns.order.items unit (all_as_they_stand m.columns) file.0 ≡ marked_lines made_in =
          ap (λ h. text_of made_in h ++ marked_rows_text made_in m.columns.order.items unit (all_as_they_stand m.columns) file.0)
          (heading_shown made_in m.columns order key rest columns_known.order columns_known.key columns_known.rest heads)
          ∙ ap (λ o. text_of made_in (heading_by made_in order key rest) ++ marked_rows_text made_in o unit (all_as_they_stand m.columns) file.0) columns_known.order
          ∙ ap (λ r. text_of made_in (heading_by made_in order key rest) ++ marked_rows_text made_in order unit (replicate (length r) as_they_stand) file.0) columns_known.rest
          ∙ ap (λ rows. text_of made_in (heading_by made_in order key rest) ++ marked_rows_text made_in order unit plain_cells rows) shown in
          let known_lines : quoted_first (delimiter_of settings.form) (marked_lines made_in) ≡ text =
          subst (λ s. quoted_first (delimiter_of settings.form) (marked_lines (in_style s settings.form)) ≡ text) (sym styled) (lines style.has_end) in
          record {
            style = style;
            styled = styled;
            bytes = file.2 ∙ ap (λ l. finished style (quoted_first (delimiter_of settings.form) l)) inner ∙ ap (finished style) known_lines;
            status = marked.0;
            outcome = marked.1;
          }
