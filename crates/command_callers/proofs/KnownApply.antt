-- What `apply` answers of a table and changes that are known.
use Rattle.std.proofs.Common.{◌≡◌, ◌∙◌, ◌++◌, ℕ, Bool, Bor, false, true, List, [], ◌∷◌, filter, length, map, nat_eq, take, IsPermutation, Option, None, Some, ap, ap₂, refl, subst, sym, true≢false}
use Rattle.std.specs.Prelude.{⊤, flat_map, if◌then◌else◌}
use Rattle.std.specs.Cmp.Lexicographic.{bytes_decides, pointwise}
use Rattle.std.specs.List.{AllByRecursion}
use Rattle.std.specs.Option.{option_eq}
use Rattle.csv.specs.Records.{field_at}
use Rattle.eob_both.specs.Places.{left_place}
use Rattle.eob_lists.specs.Join.{IsJoin, Rising, value_under}
use Rattle.eob_lists.proofs.MergeLemmas.{IsJoin-merge, Up, merge}
use Rattle.eob_joins.specs.Changes.{applied}
use Rattle.eob_joins.specs.Tables.{IsKeptOfJoin, kept}
use Rattle.keyed_requests.specs.AnswerForm.{in_style}
use Rattle.keyed_requests.specs.FormBytes.{comment_of, delimiter_of}
use Rattle.keyed_requests.specs.declared.request.Form.{Form}
use Rattle.keyed_requests.specs.declared.request.Settings.{Settings}
use Rattle.keyed_columns.specs.ChangedColumns.{AreChangedColumns, changed_names}
use Rattle.keyed_columns.specs.ColumnNames.{column_names, is_beside, place_under_key}
use Rattle.keyed_columns.specs.Going.{names_going, names_coming}
use Rattle.keyed_files.specs.Gone.{CameBy, GoneBy, GoneOf, LeaveOf}
use Rattle.keyed_columns.specs.Headers.{names_said}
use Rattle.keyed_columns.specs.Keys.{AreChangedColumnsBy, first_name}
use Rattle.keyed_columns.specs.Names.{repeats}
use Rattle.keyed_columns.specs.CellsUnder.{cell_under}
use Rattle.keyed_columns.specs.declared.columns.Columns.{Columns}
use Rattle.keyed_columns.specs.declared.columns.Place.{Place}
use Rattle.keyed_columns.specs.declared.content.Content.TheVariants.{Changes}
use Rattle.keyed_files.specs.Reading.{HeadedBy, behind_header, parts_of}
use Rattle.keyed_files.specs.Rows.{shown_sign}
use Rattle.keyed_requests.specs.declared.request.Direction.{Direction}
use Rattle.keyed_requests.specs.declared.request.Direction.TheVariants.{Backward, Forward}
use Rattle.keyed_files.specs.declared.sign.Sign.{Sign}
use Rattle.keyed_files.specs.declared.sign.Sign.TheVariants.{Minus, Plus}
use Rattle.keyed_files.specs.declared.sign.SignedRow.{SignedRow}
use Rattle.keyed_rows.specs.declared.row.ReadRow.{ReadRow}
use Rattle.keyed_tables.specs.Gathered.{alone}
use Rattle.keyed_text.specs.Texts.{AreRows}
use Rattle.keyed_text.specs.declared.style.Style.{Style}
use Rattle.keyed_text.proofs.TextLemmas.{rows-once}
use Rattle.keyed_jobs.specs.Answers.{AllFit, AnswersTable, Stops, TableChanges, TableRows, key_cmp}
use Rattle.keyed_jobs.specs.ChangesRead.{SaysChanges, come_by, come_rows, gone_by, gone_rows, signed_parts, signed_under}
use Rattle.keyed_jobs.specs.MadeChanges.{made_in, made_with, missing_by}
use Rattle.keyed_jobs.specs.Turned.{changes_in}
use Rattle.keyed_jobs.specs.declared.answer.Answer.{Answer}
use Rattle.keyed_jobs.proofs.AnswerLemmas.{key_exact, key_total}
use Rattle.keyed_jobs.proofs.TurnedLemmas.{turned-rises}
use Rattle.keyed_commands.specs.AppliedTexts.{AppliesTexts}
use Rattle.keyed_laws.proofs.MadeLemmas.{made-rises}
use Rattle.command_callers.specs.Answered.{IsButForEnd, IsInStyle}
use Rattle.command_callers.proofs.KnownJoins.{joined, kept_joined, value_has}
use Rattle.command_callers.proofs.KnownMerge.{loses_by, styled_loss, styled_table}
use Rattle.command_callers.proofs.KnownRows.{alone_rise, gathered}
use Rattle.command_callers.proofs.KnownStyles.{IsStyled, named_style}
use Rattle.command_callers.proofs.KnownTables.{IsKnown, IsPlain, KeyedRows, header_is, heads_plainly, names_are, plain_key, rows_by, table_is, IsTableFileOf}

-- a row with the cell that its sign is, if there is one
abbrev pub SignedRows : Type 0
SignedRows = List (Option (List ℕ) × (List (List ℕ) × List (List ℕ)))

abbrev pub has_sign : Sign → Option (List ℕ) → Bool
has_sign sign cell = option_eq (pointwise nat_eq) cell (Some (shown_sign sign))

abbrev pub row_with : Sign → Option (List ℕ) × (List (List ℕ) × List (List ℕ)) → KeyedRows
row_with sign row = if has_sign sign row.0 then row.1 ∷ [] else []

-- the rows with a sign
abbrev pub rows_with : Sign → SignedRows → KeyedRows
rows_with sign rows = flat_map (row_with sign) rows

gone_step : (sign : Sign) (row : ReadRow) (rest : List ReadRow) → map parts_of (gone_by sign row ++ rest) ≡ row_with Minus (Some (shown_sign sign), parts_of row) ++ map parts_of rest
gone_step Minus row rest = refl
gone_step Plus row rest = refl

come_step : (sign : Sign) (row : ReadRow) (rest : List ReadRow) → map parts_of (come_by sign row ++ rest) ≡ row_with Plus (Some (shown_sign sign), parts_of row) ++ map parts_of rest
come_step Minus row rest = refl
come_step Plus row rest = refl

gone_are : (signed : List SignedRow) → map parts_of (gone_rows signed) ≡ rows_with Minus (map signed_parts signed)
gone_are [] = refl
gone_are (s ∷ ss) = gone_step s.sign s.row (gone_rows ss) ∙ ap (λ l. row_with Minus (signed_parts s) ++ l) (gone_are ss)

come_are : (signed : List SignedRow) → map parts_of (come_rows signed) ≡ rows_with Plus (map signed_parts signed)
come_are [] = refl
come_are (s ∷ ss) = come_step s.sign s.row (come_rows ss) ∙ ap (λ l. row_with Plus (signed_parts s) ++ l) (come_are ss)

-- changes in a form that are known: a header in which no name stands twice, and records
pub record AreKnown (form : Form) (text : List ℕ) (fields : List (List ℕ)) (records : List (List (List ℕ))) : Type 0 where
  pub headed : form.has_header ≡ true
  pub rows : AreRows (delimiter_of form) (comment_of form) text (fields ∷ records)
  pub once : repeats [] (names_said Changes fields) ≡ false

pub known_changes : (form : Form) (text literal : List ℕ) (fields : List (List ℕ)) (records : List (List (List ℕ))) → text ≡ literal → form.has_header ≡ true
    → AreRows (delimiter_of form) (comment_of form) literal (fields ∷ records) → repeats [] (names_said Changes fields) ≡ false → AreKnown form text fields records
known_changes form text literal fields records e has are once =
    record { headed = has; rows = subst (λ t. AreRows (delimiter_of form) (comment_of form) t (fields ∷ records)) (sym e) are; once = once }

-- the names of the columns that go in a direction, as a header of changes says them
abbrev pub names_leaving : Direction → List (List ℕ) → List (List ℕ)
names_leaving Forward fields = names_going 1 fields
names_leaving Backward fields = names_coming 1 fields

-- changes strictly increase in each direction
changes_rise : (direction : Direction) (changes : TableChanges) → Rising key_cmp changes → Rising key_cmp (changes_in direction changes)
changes_rise Forward changes rises = rises
changes_rise Backward changes rises = turned-rises changes rises

-- the rows of records of changes, by key, each with its first cell
abbrev pub signed_by : (names key rest : List (List ℕ)) → List (List (List ℕ)) → SignedRows
signed_by names key rest records =
    map (λ fields. (field_at fields 0, (map (cell_under Changes names fields) key, map (cell_under Changes names fields) rest))) records

module _ (form : Form) (text : List ℕ) (fields : List (List ℕ)) (records : List (List (List ℕ))) (known : AreKnown form text fields records)
    (groups : Bool) (header names : List (List ℕ)) (columns : Columns) (changes : TableChanges) (says : SaysChanges form groups text header names columns changes) where
  same_records : says.1.0 ≡ fields ∷ records
  same_records = rows-once (delimiter_of form) (comment_of form) text says.1.0 (fields ∷ records) says.1.1 known.rows

  changes_header_is : header ≡ names_said Changes fields
  changes_header_is =
      let headed : HeadedBy form.has_header Changes (fields ∷ records) header = subst (λ rs. HeadedBy form.has_header Changes rs header) same_records says.1.2 in
      let named : HeadedBy true Changes (fields ∷ records) header = subst (λ b. HeadedBy b Changes (fields ∷ records) header) known.headed headed in
      named known.once

  -- the columns that go are those that its header says
  gone_are_said : (gone : List (List ℕ)) → GoneOf form text gone → gone ≡ names_going 1 fields
  gone_are_said gone said =
      let same : said.0 ≡ fields ∷ records = rows-once (delimiter_of form) (comment_of form) text said.0 (fields ∷ records) said.1 known.rows in
      let headed : GoneBy form.has_header (fields ∷ records) gone = subst (λ rs. GoneBy form.has_header rs gone) same said.2 in
      let going : GoneBy true (fields ∷ records) gone = subst (λ b. GoneBy b (fields ∷ records) gone) known.headed headed in
      going

  -- and where they are taken back, those that it says to come
  leaving_are_said : (direction : Direction) (leaving : List (List ℕ)) → LeaveOf direction form text leaving → leaving ≡ names_leaving direction fields
  leaving_are_said Forward leaving said = gone_are_said leaving said
  leaving_are_said Backward leaving said =
      let same : said.0 ≡ fields ∷ records = rows-once (delimiter_of form) (comment_of form) text said.0 (fields ∷ records) said.1 known.rows in
      let headed : CameBy form.has_header (fields ∷ records) leaving = subst (λ rs. CameBy form.has_header rs leaving) same said.2 in
      let coming : CameBy true (fields ∷ records) leaving = subst (λ b. CameBy b (fields ∷ records) leaving) known.headed headed in
      coming

  signed_are : (known_names key rest : List (List ℕ)) → names ≡ known_names → columns.key ≡ key → columns.rest ≡ rest
      → map signed_parts says.0 ≡ signed_by known_names key rest records
  signed_are known_names key rest en ek er =
      says.1.3 ∙ ap (λ rs. map (signed_under names columns) (behind_header form.has_header rs)) same_records
      ∙ ap (λ b. map (signed_under names columns) (behind_header b (fields ∷ records))) known.headed
      ∙ ap (λ k. signed_by names k columns.rest records) ek ∙ ap (λ r. signed_by names key r records) er ∙ ap (λ n. signed_by n key rest records) en

  changes_are : (known_names key rest : List (List ℕ)) (gone come : KeyedRows) → names ≡ known_names → columns.key ≡ key → columns.rest ≡ rest
      → IsPermutation (rows_with Minus (signed_by known_names key rest records)) gone → Up key_cmp (λ k. ⊤) gone
      → IsPermutation (rows_with Plus (signed_by known_names key rest records)) come → Up key_cmp (λ k. ⊤) come
      → changes ≡ merge key_cmp (map alone gone) (map alone come)
  changes_are known_names key rest gone come en ek er gone_moved gone_up come_moved come_up =
      let signed = signed_are known_names key rest en ek er in
      let pairs = says.2 in
      let gone_is : pairs.gone_by_key ≡ map alone gone =
      gathered key_cmp key_total key_exact gone (map parts_of (gone_rows says.0)) pairs.gone_by_key gone_up
      (subst (λ l. IsPermutation l gone) (sym (gone_are says.0 ∙ ap (rows_with Minus) signed)) gone_moved) pairs.goes.0 in
      let come_is : pairs.come_by_key ≡ map alone come =
      gathered key_cmp key_total key_exact come (map parts_of (come_rows says.0)) pairs.come_by_key come_up
      (subst (λ l. IsPermutation l come) (sym (come_are says.0 ∙ ap (rows_with Plus) signed)) come_moved) pairs.comes.0 in
      joined key_cmp key_total key_exact (map alone gone) (map alone come) (alone_rise key_cmp key_total gone gone_up) (alone_rise key_cmp key_total come come_up) changes
      (subst (λ t. IsJoin key_cmp t (map alone come) changes) gone_is (subst (λ t. IsJoin key_cmp pairs.gone_by_key t changes) come_is pairs.joined))

-- a place where something stands is not empty, and other cells are not the same
pub some_none : {X : Type 0} (x : X) → Some x ≡ None → ⊥
some_none x e = absurd (cc)

pub same_cell : (x y : List ℕ) → Some ((x ∷ []) ∷ []) ≡ Some ((y ∷ []) ∷ []) → x ≡ y
same_cell x y e = cc

pub different : (x y : List ℕ) → pointwise nat_eq x y ≡ false → x ≡ y → ⊥
different x y f e = true≢false (sym ((bytes_decides x y).1 e) ∙ f)

-- the names of a table and of changes, and of the table that they make
abbrev pub apply_key : (old changes : List (List ℕ)) → List (List ℕ)
apply_key old changes = first_name (old ∷ changes ∷ [])

abbrev pub apply_names : (old changes gone : List (List ℕ)) → List (List ℕ)
apply_names old changes gone = column_names (changed_names old changes gone ∷ changes ∷ old ∷ gone ∷ [])

abbrev pub apply_rest : (old changes gone : List (List ℕ)) → List (List ℕ)
apply_rest old changes gone = filter (is_beside (apply_key old changes)) (apply_names old changes gone)

abbrev pub apply_order : (old changes gone : List (List ℕ)) → List Place
apply_order old changes gone = take (length (changed_names old changes gone)) (map (place_under_key (apply_key old changes)) (apply_names old changes gone))

abbrev pub Changed : (old changes gone : List (List ℕ)) → Columns → Type 0
Changed old changes gone columns = AreChangedColumns (apply_key old changes) old changes gone columns

changed_columns : (key : Option (Bor (List ℕ))) (old changes gone : List (List ℕ)) (columns : Columns) → key ≡ None → AreChangedColumnsBy key old changes gone columns
    → Changed old changes gone columns
changed_columns key old changes gone columns e h =
    subst (λ k. AreChangedColumns k old changes gone columns) (plain_key key (old ∷ changes ∷ []) h.first h.others e h.names).1 h.are

module _ {settings : Settings} {direction : Direction} {old_form changes_form : Form} {old_text changes_text : List ℕ} {answer : Answer}
    (a : AppliesTexts settings direction old_form changes_form old_text changes_text answer) (plain : IsPlain settings)
    (old_fields changes_fields : List (List ℕ)) (old_records changes_records : List (List (List ℕ)))
    (old_known : IsKnown old_form old_text old_fields old_records) (changes_known : AreKnown changes_form changes_text changes_fields changes_records) where
  abbrev changed : List (List ℕ)
  changed = names_said Changes changes_fields

  abbrev going : List (List ℕ)
  going = names_leaving direction changes_fields

  abbrev key : List (List ℕ)
  key = apply_key old_fields changed

  abbrev rest : List (List ℕ)
  rest = apply_rest old_fields changed going

  abbrev order : List Place
  order = apply_order old_fields changed going

  old_names : a.names ≡ old_fields
  old_names = names_are settings plain a.header a.names a.named ∙ header_is old_form old_text old_fields old_records old_known settings.groups a.header a.names a.columns a.old a.old_says

  new_names : a.changes_header ≡ changed
  new_names =
      changes_header_is changes_form changes_text changes_fields changes_records changes_known settings.groups a.changes_header a.changes_header a.columns a.changes a.changes_say

  gone_names : a.gone ≡ going
  gone_names =
      leaving_are_said changes_form changes_text changes_fields changes_records changes_known settings.groups a.changes_header a.changes_header a.columns a.changes a.changes_say
      direction a.gone a.gone_said

  pub columns_known : Changed old_fields changed going a.columns
  columns_known =
      subst (λ n. Changed n changed going a.columns) old_names
      (subst (λ n. Changed a.names n going a.columns) new_names
      (subst (λ n. Changed a.names a.changes_header n a.columns) gone_names
      (changed_columns settings.key a.names a.changes_header a.gone a.columns plain.key a.columned)))

  module _ (old gone come : KeyedRows) (old_up : Up key_cmp (λ k. ⊤) old) (gone_up : Up key_cmp (λ k. ⊤) gone) (come_up : Up key_cmp (λ k. ⊤) come)
      (old_moved : IsPermutation (rows_by old_fields key rest old_records) old)
      (gone_moved : IsPermutation (rows_with Minus (signed_by changed key rest changes_records)) gone)
      (come_moved : IsPermutation (rows_with Plus (signed_by changed key rest changes_records)) come) where
    abbrev changes : TableChanges
    changes = merge key_cmp (map alone gone) (map alone come)

    abbrev made : TableChanges
    made = made_with (missing_by old_fields changed rest) (map alone old) (changes_in direction changes)

    abbrev pub applied_rows : TableRows
    applied_rows = kept applied (merge key_cmp (map alone old) made)

    old_table : a.old ≡ map alone old
    old_table =
        table_is old_form old_text old_fields old_records old_known settings.groups a.header a.names a.columns a.old a.old_says
        old_fields key rest old old_names columns_known.key columns_known.rest old_moved old_up

    changes_table : a.changes ≡ changes
    changes_table =
        changes_are changes_form changes_text changes_fields changes_records changes_known settings.groups a.changes_header a.changes_header a.columns a.changes a.changes_say
        changed key rest gone come new_names columns_known.key columns_known.rest gone_moved gone_up come_moved come_up

    made_changes : made_in a.names a.changes_header a.columns direction a.old a.changes ≡ made
    made_changes =
        ap₂ (λ o c. made_in o c a.columns direction a.old a.changes) old_names new_names
        ∙ ap (λ r. made_with (missing_by old_fields changed r) a.old (changes_in direction a.changes)) columns_known.rest
        ∙ ap₂ (λ o c. made_with (missing_by old_fields changed rest) o (changes_in direction c)) old_table changes_table

    -- where changes do not fit, the answer is a report
    pub apply_stops : (AllFit key_cmp (map alone old) made → ⊥) → Stops answer
    apply_stops misfit =
        a.applied.applied.misfits (λ all. misfit (subst (λ t. AllFit key_cmp t made) old_table (subst (λ c. AllFit key_cmp a.old c) made_changes all)))

    -- each change is from the rows that the table has under its key
    module _ (fit : AllByRecursion (λ z. left_place z.1 ≡ value_under key_cmp (map alone old) z.0) made) where
      all_fit : AllFit key_cmp a.old (made_in a.names a.changes_header a.columns direction a.old a.changes)
      all_fit =
          subst (λ c. AllFit key_cmp a.old c) (sym made_changes)
          (subst (λ t. AllFit key_cmp t made) (sym old_table)
          (value_has key_cmp key_total key_exact (λ k change. left_place change ≡ value_under key_cmp (map alone old) k) made fit))

      told : AnswersTable (in_style a.applied.style settings.form) a.columns a.applied.keys a.applied.by_cells applied_rows answer
      told =
          let patched = a.applied.applied.fits all_fit in
          let rises : Rising key_cmp made =
          made-rises (missing_by old_fields changed rest) (map alone old) (changes_in direction changes)
          (changes_rise direction changes (IsJoin-merge key_cmp key_total (map alone gone) (map alone come) (alone_rise key_cmp key_total gone gone_up) (alone_rise key_cmp key_total come come_up)).rises) in
          let are : patched.0 ≡ applied_rows =
          kept_joined key_cmp key_total key_exact (map alone old) made (alone_rise key_cmp key_total old old_up) rises applied patched.0
          (subst (λ t. IsKeptOfJoin key_cmp applied t made patched.0) old_table (subst (λ c. IsKeptOfJoin key_cmp applied a.old c patched.0) made_changes patched.1)) in
          subst (λ r. AnswersTable (in_style a.applied.style settings.form) a.columns a.applied.keys a.applied.by_cells r answer) are patched.2

      -- where they fit, it is the table that they make
      pub apply_whole : (named : Style) → IsStyled old_form settings.form.writing.heading old_text named → loses_by order rest applied_rows ≡ false
          → IsInStyle (IsButForEnd named) (λ s. IsTableFileOf (in_style s settings.form) order key rest applied_rows) answer
      apply_whole named known none =
          styled_table a.applied.style (named_style old_form settings.form.writing.heading old_text named a.applied.style known a.applied.styled) settings.form a.columns a.applied.keys a.applied.by_cells applied_rows answer order key rest
          columns_known.order columns_known.key columns_known.rest (a.applied.order plain.order)
          (heads_plainly old_form settings.form a.applied.style old_text old_fields old_records old_known settings.groups a.header a.names a.spelled a.columns a.old
          a.headed a.old_says a.spelled_said a.spells) none told

      -- unless a cell would be lost with a column that goes: then it is a report
      pub apply_loses : loses_by order rest applied_rows ≡ true → Stops answer
      apply_loses some =
          styled_loss (in_style a.applied.style settings.form) a.columns a.applied.keys a.applied.by_cells applied_rows answer order rest
          columns_known.order columns_known.rest some told
