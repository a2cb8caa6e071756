-- What `diff` as CSV answers of the key and some columns alone of two texts that are known.
use Rattle.std.proofs.Common.{◌≡◌, ◌∙◌, ◌++◌, ℕ, Bor, true, false, List, [], ◌∷◌, filter, length, map, IsPermutation, ap, ap₂, subst, sym, true≢false}
use Rattle.std.specs.Prelude.{⊤}
use Rattle.eob_lists.proofs.MergeLemmas.{Up}
use Rattle.eob_joins.specs.Changes.{changed}
use Rattle.eob_joins.specs.Tables.{IsKeptOfJoin}
use Rattle.eob_joins.proofs.TableLemmas.{by_test}
use Rattle.keyed_requests.specs.declared.request.Form.{Form}
use Rattle.keyed_requests.specs.declared.request.Picked.TheVariants as picked
use Rattle.keyed_requests.specs.declared.request.Settings.{Settings}
use Rattle.keyed_columns.specs.ChangedColumns.{marked_between, marked_columns}
use Rattle.keyed_columns.specs.ColumnNames.{HaveNames, key_first, or_header}
use Rattle.keyed_columns.specs.KeyText.{AreNamesIn}
use Rattle.keyed_columns.specs.Keys.{AreAmong}
use Rattle.keyed_columns.specs.Names.{is_kept}
use Rattle.keyed_columns.specs.Placed.{placed}
use Rattle.keyed_columns.specs.declared.columns.Place.{Place}
use Rattle.keyed_files.specs.Writing.{text_of}
use Rattle.keyed_tables.specs.Gathered.{alone}
use Rattle.keyed_jobs.specs.Answers.{TableChanges, key_cmp, rows_eq, status_of}
use Rattle.keyed_jobs.specs.ComeOut.{AlikePlaces, AlikeRows}
use Rattle.keyed_jobs.specs.ChangeRows.{changes_heading, changes_rows}
use Rattle.keyed_jobs.specs.declared.answer.Answer.{Answer}
use Rattle.keyed_jobs.proofs.AnswerLemmas.{key_exact, key_total}
use Rattle.keyed_commands.specs.DiffOnly.{DiffsOnlyTexts}
use Rattle.command_callers.proofs.KnownDiff.{changes_between, diff_key, diff_names, diff_rest, same_tables}
use Rattle.command_callers.proofs.KnownJoins.{kept_joined}
use Rattle.command_callers.proofs.KnownRows.{alone_rise}
use Rattle.command_callers.proofs.KnownTables.{IsKnown, IsPlain, KeyedRows, came_out, columns_are, header_is, names_are, rows_by, table_is}

-- the names beside the key that are picked, where the cells of each row stand, and the names as they are marked
abbrev pub only_rest : (only old new : List (List ℕ)) → List (List ℕ)
only_rest only old new = filter (is_kept true only) (diff_rest old new)

abbrev pub only_order : (only old new : List (List ℕ)) → List Place
only_order only old new = key_first (length (diff_key old new)) (length (only_rest only old new))

abbrev pub only_marked : (only old new : List (List ℕ)) → List (List ℕ)
only_marked only old new = map (marked_between (or_header old new) (or_header new old)) (placed (only_order only old new) (diff_key old new) (only_rest only old new))

-- the text of the changes
abbrev pub only_text : Form → (only old_fields new_fields : List (List ℕ)) → KeyedRows → KeyedRows → List ℕ
only_text form only old_fields new_fields old new =
    text_of form (changes_heading form (only_marked only old_fields new_fields) ++ changes_rows (only_order only old_fields new_fields) (changes_between old new))

module _ {settings : Settings} {text : Bor (List ℕ)} {old_form new_form : Form} {old_text new_text : List ℕ} {answer : Answer}
    (d : DiffsOnlyTexts settings (picked.Only text) old_form new_form old_text new_text answer) (plain : IsPlain settings)
    (only : List (List ℕ)) (given : (first others : List (List ℕ)) → AreNamesIn text.now first others → first ≡ only)
    (old_fields new_fields : List (List ℕ)) (old_records new_records : List (List (List ℕ)))
    (old_known : IsKnown old_form old_text old_fields old_records) (new_known : IsKnown new_form new_text new_fields new_records)
    (old new : KeyedRows) (old_up : Up key_cmp (λ k. ⊤) old) (new_up : Up key_cmp (λ k. ⊤) new)
    (old_moved : IsPermutation (rows_by old_fields (diff_key old_fields new_fields) (only_rest only old_fields new_fields) old_records) old)
    (new_moved : IsPermutation (rows_by new_fields (diff_key old_fields new_fields) (only_rest only old_fields new_fields) new_records) new) where
  abbrev key : List (List ℕ)
  key = diff_key old_fields new_fields

  abbrev rest : List (List ℕ)
  rest = only_rest only old_fields new_fields

  old_names : d.names ≡ old_fields
  old_names = names_are settings plain d.header d.names d.named ∙ header_is old_form old_text old_fields old_records old_known settings.groups d.header d.names d.columns d.old d.old_says

  new_names : d.next_header ≡ new_fields
  new_names = header_is new_form new_text new_fields new_records new_known settings.groups d.next_header d.next_header d.columns d.new d.new_says

  all_known : HaveNames key (diff_names old_fields new_fields) d.columned.0
  all_known =
      subst (λ n. HaveNames (diff_key n new_fields) (diff_names n new_fields) d.columned.0) old_names
      (subst (λ n. HaveNames (diff_key d.names n) (diff_names d.names n) d.columned.0) new_names
      (columns_are settings.key (d.names ∷ d.next_header ∷ []) (d.next_header ∷ d.names ∷ []) d.columned.0 plain.key d.columned.1))

  among : AreAmong true only d.columned.0 d.columns
  among = subst (λ names. AreAmong true names d.columned.0 d.columns) (given d.columned.2.first d.columned.2.others d.columned.2.given) d.columned.2.among

  key_known : d.columns.key ≡ key
  key_known = among.key ∙ all_known.key

  rest_known : d.columns.rest ≡ rest
  rest_known = among.rest ∙ ap (filter (is_kept true only)) all_known.rest

  order_known : d.columns.order.items ≡ only_order only old_fields new_fields
  order_known = among.order ∙ ap₂ (λ k r. key_first (length k) (length r)) all_known.key rest_known

  old_table : d.old ≡ map alone old
  old_table =
      table_is old_form old_text old_fields old_records old_known settings.groups d.header d.names d.columns d.old d.old_says
      old_fields key rest old old_names key_known rest_known old_moved old_up

  new_table : d.new ≡ map alone new
  new_table =
      table_is new_form new_text new_fields new_records new_known settings.groups d.next_header d.next_header d.columns d.new d.new_says
      new_fields key rest new new_names key_known rest_known new_moved new_up

  changes_known : (changes : TableChanges) → IsKeptOfJoin key_cmp (changed rows_eq) d.old d.new changes → changes ≡ changes_between old new
  changes_known changes h =
      kept_joined key_cmp key_total key_exact (map alone old) (map alone new) (alone_rise key_cmp key_total old old_up) (alone_rise key_cmp key_total new new_up) (changed rows_eq) changes
      (subst (λ t. IsKeptOfJoin key_cmp (changed rows_eq) t (map alone new) changes) old_table
      (subst (λ t. IsKeptOfJoin key_cmp (changed rows_eq) d.old t changes) new_table h))

  marked_known : d.changes.marked ≡ only_marked only old_fields new_fields
  marked_known =
      d.marks ∙ ap₂ (marked_columns d.columns) old_names new_names
      ∙ ap (λ o. map (marked_between (or_header old_fields new_fields) (or_header new_fields old_fields)) (placed o d.columns.key d.columns.rest)) order_known
      ∙ ap₂ (λ k r. map (marked_between (or_header old_fields new_fields) (or_header new_fields old_fields)) (placed (only_order only old_fields new_fields) k r)) key_known rest_known

  pub only_bytes : answer.bytes.items ≡ only_text settings.form only old_fields new_fields old new
  only_bytes =
      let text = d.changes.changes in
      let shown = came_out d.changes.keys d.changes.by_cells (AlikePlaces AlikeRows AlikeRows) text.1.0 text.0 (d.changes.order plain.order) text.1.2 in
      text.2
      ∙ ap (λ l. text_of settings.form (changes_heading settings.form d.changes.marked ++ changes_rows d.columns.order.items l)) (shown ∙ changes_known text.1.0 text.1.1)
      ∙ ap₂ (λ m o. text_of settings.form (changes_heading settings.form m ++ changes_rows o (changes_between old new))) marked_known order_known

  -- the status where the tables are not the same
  pub only_differs : same_tables (map alone old) (map alone old) ≡ true → same_tables (map alone old) (map alone new) ≡ false → answer.status ≡ 1
  only_differs itself differ =
      by_test d.status.0
      (λ t. absurd (true≢false (sym itself ∙ ap (same_tables (map alone old)) (sym old_table ∙ (d.status.1.0 t).0 ∙ new_table) ∙ differ)))
      (λ f. d.status.2 ∙ ap status_of f)
