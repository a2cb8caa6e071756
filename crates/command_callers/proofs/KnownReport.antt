-- What `diff` tells of two texts that are known, where all columns are compared.
use Rattle.std.proofs.Common.{◌≡◌, ◌∙◌, ◌++◌, ℕ, Bool, true, false, List, [], ◌∷◌, filter, length, map, IsPermutation, ap, subst, subst₂, sym, true≢false}
use Rattle.std.specs.Prelude.{⊤, replicate}
use Rattle.eob_lists.proofs.MergeLemmas.{Up}
use Rattle.eob_both.specs.declared.either_or_both.EitherOrBoth.{EitherOrBoth}
use Rattle.eob_joins.proofs.TableLemmas.{by_test}
use Rattle.keyed_reports.specs.RowChanges.{row_changes, rows_eq}
use Rattle.keyed_reports.specs.SaidAfter.{count_rows, counts_of, text_after}
use Rattle.keyed_reports.specs.Shown.{count_more, shown_rows}
use Rattle.keyed_reports.specs.ShownColumns.{columns_shown}
use Rattle.keyed_reports.specs.TableLines.{HasTextOfRows, versions_of}
use Rattle.keyed_requests.specs.declared.request.Comparing.{Comparing}
use Rattle.keyed_requests.specs.declared.request.Form.{Form}
use Rattle.keyed_requests.specs.declared.request.Picked.TheVariants.{All}
use Rattle.keyed_requests.specs.declared.request.Settings.{Settings}
use Rattle.keyed_columns.specs.Alikes.{as_they_stand}
use Rattle.keyed_columns.specs.ColumnNames.{HaveNames, column_names, has_name, is_beside}
use Rattle.keyed_columns.specs.Keys.{ArePickedColumns}
use Rattle.keyed_columns.specs.declared.columns.Columns.{Columns}
use Rattle.keyed_tables.specs.Gathered.{alone}
use Rattle.keyed_jobs.specs.Answers.{TableChanges, TableRows, key_cmp, status_of}
use Rattle.keyed_jobs.specs.ComeOut.{AlikePlaces, AlikeRows}
use Rattle.keyed_jobs.specs.TablesRead.{headers_differ}
use Rattle.keyed_jobs.specs.declared.answer.Answer.{Answer}
use Rattle.keyed_commands.specs.Reported.{IsTold, ReportsTexts, names_among}
use Rattle.command_callers.proofs.KnownDiff.{changes_are, changes_between, diff_key, same_tables}
use Rattle.command_callers.proofs.KnownTables.{IsKnown, IsPlain, KeyedRows, came_out, columns_are, header_is, names_are, rows_by, table_is}

-- the names of two tables, and those beside the key
abbrev pub report_names : (old new : List (List ℕ)) → List (List ℕ)
report_names old new = column_names (old ∷ new ∷ [])

abbrev pub report_rest : (old new : List (List ℕ)) → List (List ℕ)
report_rest old new = filter (is_beside (diff_key old new)) (report_names old new)

-- the names of a header that are compared
abbrev pub names_compared : (old new header : List (List ℕ)) → List (List ℕ)
names_compared old new header = filter (has_name (diff_key old new ++ report_rest old new)) header

module _ {settings : Settings} {old_form new_form : Form} {old_text new_text : List ℕ} {answer : Answer}
    {how : Comparing} (r : ReportsTexts settings how old_form new_form old_text new_text answer) (whole : how.view.columns ≡ All) (plain : IsPlain settings)
    (old_fields new_fields : List (List ℕ)) (old_records new_records : List (List (List ℕ)))
    (old_known : IsKnown old_form old_text old_fields old_records) (new_known : IsKnown new_form new_text new_fields new_records)
    (old new : KeyedRows) (old_up : Up key_cmp (λ k. ⊤) old) (new_up : Up key_cmp (λ k. ⊤) new)
    (old_moved : IsPermutation (rows_by old_fields (diff_key old_fields new_fields) (report_rest old_fields new_fields) old_records) old)
    (new_moved : IsPermutation (rows_by new_fields (diff_key old_fields new_fields) (report_rest old_fields new_fields) new_records) new) where
  old_names : r.names ≡ old_fields
  old_names = names_are settings plain r.header r.names r.named ∙ header_is old_form old_text old_fields old_records old_known settings.groups r.header r.names r.columns r.old r.old_says

  new_names : r.next_header ≡ new_fields
  new_names = header_is new_form new_text new_fields new_records new_known settings.groups r.next_header r.next_header r.columns r.new r.new_says

  columns_known : HaveNames (diff_key old_fields new_fields) (report_names old_fields new_fields) r.columns
  columns_known =
      subst (λ n. HaveNames (diff_key n new_fields) (report_names n new_fields) r.columns) old_names
      (subst (λ n. HaveNames (diff_key r.names n) (report_names r.names n) r.columns) new_names
      (subst (HaveNames (diff_key r.names r.next_header) (report_names r.names r.next_header)) (sym (subst (λ by. ArePickedColumns by r.columned.0 r.columns) whole r.columned.2))
      (columns_are settings.key (r.names ∷ r.next_header ∷ []) (r.names ∷ r.next_header ∷ []) r.columned.0 plain.key r.columned.1)))

  old_table : r.old ≡ map alone old
  old_table =
      table_is old_form old_text old_fields old_records old_known settings.groups r.header r.names r.columns r.old r.old_says
      old_fields (diff_key old_fields new_fields) (report_rest old_fields new_fields) old old_names columns_known.key columns_known.rest old_moved old_up

  new_table : r.new ≡ map alone new
  new_table =
      table_is new_form new_text new_fields new_records new_known settings.groups r.next_header r.next_header r.columns r.new r.new_says
      new_fields (diff_key old_fields new_fields) (report_rest old_fields new_fields) new new_names columns_known.key columns_known.rest new_moved new_up

  among : (header fields : List (List ℕ)) → header ≡ fields → names_among r.columns header ≡ names_compared old_fields new_fields fields
  among header fields is =
      ap (λ key. filter (has_name (key ++ r.columns.rest)) header) columns_known.key
      ∙ ap (λ rest. filter (has_name (diff_key old_fields new_fields ++ rest)) header) columns_known.rest
      ∙ ap (names_compared old_fields new_fields) is

  -- the rows of changes, and those that are shown
  abbrev rows_changed : TableChanges → List (List (List ℕ) × EitherOrBoth (List (List ℕ)) (List (List ℕ)))
  rows_changed changes = row_changes rows_eq settings.groups changes

  abbrev rows_told : TableChanges → List (List (List ℕ) × EitherOrBoth (List (List ℕ)) (List (List ℕ)))
  rows_told changes = shown_rows how.view.rows (rows_changed changes)

  -- whether each of so many columns beside the key is shown of them
  abbrev shown_of : ℕ → TableChanges → List Bool
  shown_of count changes = columns_shown how.view.shown (replicate count as_they_stand) count (map versions_of (rows_told changes))

  -- what stands after them, where the old table had so many rows
  abbrev said_after : ℕ → ℕ → TableChanges → List ℕ
  said_after count old_rows changes = text_after (length (rows_told changes)) (count_more how.view.rows (length (rows_changed changes)))
      (shown_of count changes) (counts_of old_rows (rows_changed changes))

  -- a table of them, under columns, of which these stand beside the key
  abbrev IsTableOf : Columns → List (List ℕ) → TableRows → TableChanges → Type 0
  IsTableOf columns rest before changes = HasTextOfRows (replicate (length rest) as_they_stand) (shown_of (length rest) changes)
      columns (rows_told changes) (said_after (length rest) (count_rows before) changes) answer.bytes.items

  -- a table has the rows of the changes between the two
  pub report_table : IsTold how.format how.view → (columns : Columns) × HaveNames (diff_key old_fields new_fields) (report_names old_fields new_fields) columns
      × IsTableOf columns (report_rest old_fields new_fields) (map alone old) (changes_between old new)
  report_table is_told =
      let tells = r.told.table is_told in
      let joined = tells.come_out in
      let changes = came_out r.told.keys r.told.by_cells (AlikePlaces AlikeRows AlikeRows) joined.0 tells.changes (r.told.order plain.order) joined.2
      ∙ changes_are old new old_up new_up r.old r.new joined.0 old_table new_table joined.1 in (
        r.columns,
        columns_known,
        subst (λ before. IsTableOf r.columns (report_rest old_fields new_fields) before (changes_between old new)) old_table
            (subst₂ (λ rest changes. IsTableOf r.columns rest r.old changes) columns_known.rest changes tells.table),
      )

  -- the status where the tables are not the same, and where they are and no column comes or goes
  pub report_differs : same_tables (map alone old) (map alone old) ≡ true → same_tables (map alone old) (map alone new) ≡ false → answer.status ≡ 1
  report_differs itself differ =
      by_test r.status.0
      (λ t. absurd (true≢false (sym itself ∙ ap (same_tables (map alone old)) (sym old_table ∙ (r.status.1.0 t).0 ∙ new_table) ∙ differ)))
      (λ f. r.status.2 ∙ ap status_of f)

  pub report_same : map alone old ≡ map alone new
      → headers_differ (names_compared old_fields new_fields old_fields) (names_compared old_fields new_fields new_fields) ≡ false → answer.status ≡ 0
  report_same same headers =
      r.status.2 ∙ ap status_of (r.status.1.1 (
        old_table ∙ same ∙ sym new_table,
        ap (λ n. headers_differ n (names_among r.columns r.next_header)) (among r.names old_fields old_names)
            ∙ ap (λ n. headers_differ (names_compared old_fields new_fields old_fields) n) (among r.next_header new_fields new_names) ∙ headers,
      ))
