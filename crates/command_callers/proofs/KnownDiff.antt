-- What `diff` answers of two texts that are known.
use Rattle.std.proofs.Common.{◌≡◌, ◌∙◌, ◌++◌, ℕ, Bool, true, false, List, [], ◌∷◌, filter, map, nat_eq, IsPermutation, ap, subst, sym, true≢false}
use Rattle.std.specs.Prelude.{◌&&◌, ⊤}
use Rattle.std.specs.Cmp.Lexicographic.{pointwise}
use Rattle.eob_lists.proofs.MergeLemmas.{Up, merge}
use Rattle.eob_joins.specs.Changes.{changed}
use Rattle.eob_joins.specs.Tables.{IsKeptOfJoin, kept}
use Rattle.eob_joins.proofs.TableLemmas.{by_test}
use Rattle.keyed_requests.specs.declared.request.Form.{Form}
use Rattle.keyed_requests.specs.declared.request.Settings.{Settings}
use Rattle.keyed_columns.specs.ChangedColumns.{marked_names}
use Rattle.keyed_columns.specs.ColumnNames.{HaveNames, column_names, is_beside, place_under_key}
use Rattle.keyed_columns.specs.Keys.{first_name}
use Rattle.keyed_files.specs.Writing.{text_of}
use Rattle.keyed_tables.specs.Gathered.{alone}
use Rattle.keyed_jobs.specs.Answers.{TableChanges, TableRows, key_cmp, rows_eq, status_of}
use Rattle.keyed_jobs.specs.ComeOut.{AlikePlaces, AlikeRows}
use Rattle.keyed_jobs.specs.ChangeRows.{changes_heading, changes_rows}
use Rattle.keyed_jobs.specs.TablesRead.{DiffsTexts, headers_differ}
use Rattle.keyed_jobs.specs.declared.answer.Answer.{Answer}
use Rattle.keyed_jobs.proofs.AnswerLemmas.{key_exact, key_total}
use Rattle.command_callers.specs.Cases.{IsAnswer}
use Rattle.command_callers.proofs.KnownJoins.{kept_joined}
use Rattle.command_callers.proofs.KnownRows.{alone_rise}
use Rattle.command_callers.proofs.KnownTables.{IsKnown, IsPlain, KeyedRows, came_out, columns_are, header_is, names_are, rows_by, table_is}

-- whether two tables are the same
abbrev pub same_tables : TableRows → TableRows → Bool
same_tables old new = pointwise (λ x y. pointwise (pointwise nat_eq) x.0 y.0 && rows_eq x.1 y.1) old new

-- the changes between two tables of which no two rows have one key
abbrev pub changes_between : KeyedRows → KeyedRows → TableChanges
changes_between old new = kept (changed rows_eq) (merge key_cmp (map alone old) (map alone new))

-- they are what is kept of the join of both
pub changes_are : (old new : KeyedRows) → Up key_cmp (λ k. ⊤) old → Up key_cmp (λ k. ⊤) new → (before after : TableRows) (changes : TableChanges)
    → before ≡ map alone old → after ≡ map alone new → IsKeptOfJoin key_cmp (changed rows_eq) before after changes → changes ≡ changes_between old new
changes_are old new old_up new_up before after changes is_old is_new h =
    kept_joined key_cmp key_total key_exact (map alone old) (map alone new) (alone_rise key_cmp key_total old old_up) (alone_rise key_cmp key_total new new_up) (changed rows_eq) changes
    (subst (λ t. IsKeptOfJoin key_cmp (changed rows_eq) t (map alone new) changes) is_old
    (subst (λ t. IsKeptOfJoin key_cmp (changed rows_eq) before t changes) is_new h))

-- the key of two tables, all their names, and those beside the key
abbrev pub diff_key : (old new : List (List ℕ)) → List (List ℕ)
diff_key old new = first_name (old ∷ new ∷ [])

abbrev pub diff_names : (old new : List (List ℕ)) → List (List ℕ)
diff_names old new = column_names (new ∷ old ∷ [])

abbrev pub diff_rest : (old new : List (List ℕ)) → List (List ℕ)
diff_rest old new = filter (is_beside (diff_key old new)) (diff_names old new)

-- the text of the changes
abbrev pub diff_text : Form → (old_fields new_fields : List (List ℕ)) → KeyedRows → KeyedRows → List ℕ
diff_text form old_fields new_fields old new =
    text_of form (changes_heading form (marked_names old_fields new_fields)
    ++ changes_rows (map (place_under_key (diff_key old_fields new_fields)) (diff_names old_fields new_fields)) (changes_between old new))

module _ {settings : Settings} {old_form new_form : Form} {old_text new_text : List ℕ} {answer : Answer}
    (d : DiffsTexts settings old_form new_form old_text new_text answer) (plain : IsPlain settings)
    (old_fields new_fields : List (List ℕ)) (old_records new_records : List (List (List ℕ)))
    (old_known : IsKnown old_form old_text old_fields old_records) (new_known : IsKnown new_form new_text new_fields new_records)
    (old new : KeyedRows) (old_up : Up key_cmp (λ k. ⊤) old) (new_up : Up key_cmp (λ k. ⊤) new)
    (old_moved : IsPermutation (rows_by old_fields (diff_key old_fields new_fields) (diff_rest old_fields new_fields) old_records) old)
    (new_moved : IsPermutation (rows_by new_fields (diff_key old_fields new_fields) (diff_rest old_fields new_fields) new_records) new) where
  pub old_names : d.names ≡ old_fields
  old_names = names_are settings plain d.header d.names d.named ∙ header_is old_form old_text old_fields old_records old_known settings.groups d.header d.names d.columns d.old d.old_says

  pub new_names : d.next_header ≡ new_fields
  new_names = header_is new_form new_text new_fields new_records new_known settings.groups d.next_header d.next_header d.columns d.new d.new_says

  pub columns_known : HaveNames (diff_key old_fields new_fields) (diff_names old_fields new_fields) d.columns
  columns_known =
      subst (λ n. HaveNames (diff_key n new_fields) (diff_names n new_fields) d.columns) old_names
      (subst (λ n. HaveNames (diff_key d.names n) (diff_names d.names n) d.columns) new_names
      (columns_are settings.key (d.names ∷ d.next_header ∷ []) (d.next_header ∷ d.names ∷ []) d.columns plain.key d.columned))

  old_table : d.old ≡ map alone old
  old_table =
      table_is old_form old_text old_fields old_records old_known settings.groups d.header d.names d.columns d.old d.old_says
      old_fields (diff_key old_fields new_fields) (diff_rest old_fields new_fields) old old_names columns_known.key columns_known.rest old_moved old_up

  new_table : d.new ≡ map alone new
  new_table =
      table_is new_form new_text new_fields new_records new_known settings.groups d.next_header d.next_header d.columns d.new d.new_says
      new_fields (diff_key old_fields new_fields) (diff_rest old_fields new_fields) new new_names columns_known.key columns_known.rest new_moved new_up

  pub changes_known : (changes : TableChanges) → IsKeptOfJoin key_cmp (changed rows_eq) d.old d.new changes → changes ≡ changes_between old new
  changes_known changes h = changes_are old new old_up new_up d.old d.new changes old_table new_table h

  pub diff_bytes : answer.bytes.items ≡ diff_text settings.form old_fields new_fields old new
  diff_bytes =
      let text = d.changes.changes in
      let shown = came_out d.changes.keys d.changes.by_cells (AlikePlaces AlikeRows AlikeRows) text.1.0 text.0 (d.changes.order plain.order) text.1.2 in
      let marked = d.marks ∙ ap (λ n. marked_names n d.next_header) old_names ∙ ap (λ n. marked_names old_fields n) new_names in
      text.2
      ∙ ap (λ l. text_of settings.form (changes_heading settings.form d.changes.marked ++ changes_rows d.columns.order.items l)) (shown ∙ changes_known text.1.0 text.1.1)
      ∙ ap (λ o. text_of settings.form (changes_heading settings.form d.changes.marked ++ changes_rows o (changes_between old new))) columns_known.order
      ∙ ap (λ m. text_of settings.form (changes_heading settings.form m ++ changes_rows (map (place_under_key (diff_key old_fields new_fields)) (diff_names old_fields new_fields)) (changes_between old new)))
      marked

  -- the status where the tables are not the same, and where they are and no column comes or goes
  pub diff_differs : same_tables (map alone old) (map alone old) ≡ true → same_tables (map alone old) (map alone new) ≡ false → answer.status ≡ 1
  diff_differs itself differ =
      by_test d.status.0
      (λ t. absurd (true≢false (sym itself ∙ ap (same_tables (map alone old)) (sym old_table ∙ (d.status.1.0 t).0 ∙ new_table) ∙ differ)))
      (λ f. d.status.2 ∙ ap status_of f)

  pub diff_same : map alone old ≡ map alone new → headers_differ old_fields new_fields ≡ false → answer.status ≡ 0
  diff_same same headers =
      d.status.2 ∙ ap status_of (d.status.1.1 (
        old_table ∙ same ∙ sym new_table,
        ap (λ n. headers_differ n d.next_header) old_names ∙ ap (λ n. headers_differ old_fields n) new_names ∙ headers,
      ))

  -- both of them, with the text
  pub diff_changed : same_tables (map alone old) (map alone old) ≡ true → same_tables (map alone old) (map alone new) ≡ false
      → IsAnswer 1 (diff_text settings.form old_fields new_fields old new) answer
  diff_changed itself differ = (diff_differs itself differ, diff_bytes)

  pub diff_unchanged : map alone old ≡ map alone new → headers_differ old_fields new_fields ≡ false
      → IsAnswer 0 (diff_text settings.form old_fields new_fields old new) answer
  diff_unchanged same headers = (diff_same same headers, diff_bytes)
