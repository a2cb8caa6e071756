-- What the laws of commands say of texts that are known.
use Rattle.std.proofs.Common.{◌≡◌, ◌∙◌, ℕ, true, false, List, [], ◌∷◌, map, IsPermutation, None, ap, ap₂, refl, subst, subst₂, sym}
use Rattle.std.proofs.lemmas.Result.{IfOk-weaker}
use Rattle.std.specs.Prelude.{⊤, IfOk, Result}
use Rattle.eob_lists.specs.Join.{Rising, value_under}
use Rattle.eob_lists.proofs.MergeLemmas.{Up}
use Rattle.eob_joins.proofs.TableLemmas.{same_table}
use Rattle.keyed_text.specs.declared.style.Style.{Style}
use Rattle.keyed_requests.specs.AnswerForm.{in_style, writes_heading}
use Rattle.keyed_requests.specs.FormBytes.{comment_of, delimiter_of}
use Rattle.keyed_requests.specs.declared.merging.Conflicts.TheVariants.{Report}
use Rattle.keyed_requests.specs.declared.merging.Unit.TheVariants as unit
use Rattle.keyed_requests.specs.declared.request.Form.{Form}
use Rattle.keyed_requests.specs.declared.request.Settings.{Settings}
use Rattle.keyed_columns.specs.ChangedColumns.{marked_names}
use Rattle.keyed_columns.specs.ColumnNames.{place_under_key}
use Rattle.keyed_columns.specs.Going.{names_going}
use Rattle.keyed_columns.specs.Headers.{names_said}
use Rattle.keyed_columns.specs.Names.{repeats}
use Rattle.keyed_columns.specs.declared.columns.Columns.{Columns}
use Rattle.keyed_columns.specs.declared.columns.Place.{Place}
use Rattle.keyed_requests.specs.declared.request.Direction.TheVariants.{Forward}
use Rattle.keyed_columns.specs.declared.content.Content.TheVariants.{Changes, Rows}
use Rattle.keyed_files.specs.Reading.{HeadedBy, behind_header}
use Rattle.keyed_files.specs.Rows.{change_name}
use Rattle.keyed_tables.specs.Gathered.{alone}
use Rattle.keyed_text.specs.Texts.{AreRows, BeginsComments, PartsCells, ReadsAs}
use Rattle.keyed_text.proofs.TextLemmas.{rows-once}
use Rattle.keyed_jobs.specs.Answers.{IsTableFile, TableChanges, TableRows, key_cmp, status_of}
use Rattle.keyed_jobs.specs.ChangeRows.{changes_rows}
use Rattle.keyed_jobs.specs.ChangesRead.{PairsRows, SaysChanges, come_rows, gone_rows, signed_under}
use Rattle.keyed_jobs.specs.ComeOut.{AlikePlaces, AlikeRows}
use Rattle.keyed_jobs.specs.TablesRead.{DiffsTexts, SaysTable, headers_differ}
use Rattle.keyed_jobs.specs.declared.answer.Answer.{Answer}
use Rattle.keyed_jobs.specs.declared.answer.Outcome.TheVariants.{Made}
use Rattle.keyed_jobs.proofs.AnswerLemmas.{key_exact, key_total}
use Rattle.keyed_commands.specs.AppliedTexts.{AppliesTexts}
use Rattle.keyed_commands.specs.MergedTexts.{MergesTexts}
use Rattle.keyed_laws.specs.Laws.{DiffReadsLaw}
use Rattle.keyed_laws.specs.OneSide.{KeepsOneSide, OneSideLaw}
use Rattle.keyed_laws.specs.TextLaws.{AnswersTableOf, DiffSaysLaw, DiffedTextLaw, NamesOnce, OneTableLaw}
use Rattle.command_callers.specs.Answered.{IsButForEnd, IsInStyle, SaysOnlyChanges}
use Rattle.command_callers.proofs.KnownApply as apply
use Rattle.command_callers.proofs.KnownDiff as diff
use Rattle.command_callers.proofs.KnownMerge as merge
use Rattle.command_callers.proofs.KnownStyles.{IsStyled, named_style}
use Rattle.command_callers.proofs.KnownTables.{IsKnown, IsPlain, KeyedRows, came_out, header_is, known_text, names_are, rows_by, table_is, IsTableFileOf, table_file_is}

-- what follows of a value that is given, where one is
pub and_so : {T E : Type 0} {P Q : T → Type 0} (result : Result T E) → IfOk result P → ((value : T) → P value → Q value) → IfOk result Q
and_so result h f = IfOk-weaker result _ _ f h

-- the first row of a text, if it has one
first_row : List (List (List ℕ)) → List (List ℕ)
first_row [] = []
first_row (row ∷ rows) = row

-- no name stands twice in the header of a text that is known
names_once : (form : Form) (text literal : List ℕ) (fields : List (List ℕ)) (records : List (List (List ℕ))) → text ≡ literal
    → AreRows (delimiter_of form) (comment_of form) literal (fields ∷ records) → repeats [] fields ≡ false → NamesOnce form text
unfolding first_row
names_once form text literal fields records e are once header rows reads =
    ap (λ all. repeats [] (first_row all))
    (rows-once (delimiter_of form) (comment_of form) text (header ∷ rows) (fields ∷ records) reads
    (subst (λ t. AreRows (delimiter_of form) (comment_of form) t (fields ∷ records)) (sym e) are)) ∙ once

-- what `diff` wrote reads as the changes between two tables that are known
module _ {settings : Settings} {old_form new_form : Form} {old_text new_text : List ℕ} {answer : Answer}
    (d : DiffsTexts settings old_form new_form old_text new_text answer) (law : DiffReadsLaw) (plain : IsPlain settings)
    (has : writes_heading settings.form ≡ true) (parts : PartsCells (delimiter_of settings.form)) (begins : BeginsComments (delimiter_of settings.form) (comment_of settings.form))
    (old_fields new_fields : List (List ℕ)) (old_records new_records : List (List (List ℕ)))
    (old_known : IsKnown old_form old_text old_fields old_records) (new_known : IsKnown new_form new_text new_fields new_records)
    (old new : KeyedRows) (old_up : Up key_cmp (λ k. ⊤) old) (new_up : Up key_cmp (λ k. ⊤) new)
    (old_moved : IsPermutation (rows_by old_fields (diff.diff_key old_fields new_fields) (diff.diff_rest old_fields new_fields) old_records) old)
    (new_moved : IsPermutation (rows_by new_fields (diff.diff_key old_fields new_fields) (diff.diff_rest old_fields new_fields) new_records) new) where
  abbrev wanted_rows : List (List (List ℕ))
  wanted_rows = changes_rows (map (place_under_key (diff.diff_key old_fields new_fields)) (diff.diff_names old_fields new_fields)) (diff.changes_between old new)

  pub reads_changes : ReadsAs (delimiter_of settings.form) (comment_of settings.form) answer.bytes.items (change_name ∷ marked_names old_fields new_fields) wanted_rows
  reads_changes =
      let read = law settings.form d.columns d.changes.keys d.changes.by_cells d.changes.marked d.old d.new answer.bytes.items has parts begins d.changes.changes in
      let of = diff.changes_known d plain old_fields new_fields old_records new_records old_known new_known old new old_up new_up old_moved new_moved in
      let columns = diff.columns_known d plain old_fields new_fields old_records new_records old_known new_known old new old_up new_up old_moved new_moved in
      let before = diff.old_names d plain old_fields new_fields old_records new_records old_known new_known old new old_up new_up old_moved new_moved in
      let after = diff.new_names d plain old_fields new_fields old_records new_records old_known new_known old new old_up new_up old_moved new_moved in
      let shown : read.0 ≡ diff.changes_between old new =
      came_out d.changes.keys d.changes.by_cells (AlikePlaces AlikeRows AlikeRows) read.1.0 read.0 (d.changes.order plain.order) read.1.2 ∙ of read.1.0 read.1.1 in
      let rows : changes_rows d.columns.order.items read.0 ≡ wanted_rows = ap₂ changes_rows columns.order shown in
      let marked : d.changes.marked ≡ marked_names old_fields new_fields = d.marks ∙ ap₂ marked_names before after in
      subst₂ (λ names found. ReadsAs (delimiter_of settings.form) (comment_of settings.form) answer.bytes.items (change_name ∷ names) found) marked rows read.2

-- what `diff` wrote says, where it is read as changes, those between two tables that are known
module _ {settings : Settings} {old_form new_form : Form} {old_text new_text : List ℕ} {answer : Answer}
    (d : DiffsTexts settings old_form new_form old_text new_text answer) (law : DiffSaysLaw) (plain : IsPlain settings)
    (has : writes_heading settings.form ≡ true) (parts : PartsCells (delimiter_of settings.form)) (begins : BeginsComments (delimiter_of settings.form) (comment_of settings.form))
    (commas : delimiter_of settings.form ≡ 44) (no_comment : comment_of settings.form ≡ None) (headed : settings.form.has_header ≡ true) (alone_each : settings.groups ≡ false)
    (old_fields new_fields : List (List ℕ)) (old_records new_records : List (List (List ℕ)))
    (old_known : IsKnown old_form old_text old_fields old_records) (new_known : IsKnown new_form new_text new_fields new_records)
    (old new : KeyedRows) (old_up : Up key_cmp (λ k. ⊤) old) (new_up : Up key_cmp (λ k. ⊤) new)
    (old_moved : IsPermutation (rows_by old_fields (diff.diff_key old_fields new_fields) (diff.diff_rest old_fields new_fields) old_records) old)
    (new_moved : IsPermutation (rows_by new_fields (diff.diff_key old_fields new_fields) (diff.diff_rest old_fields new_fields) new_records) new) where
  says_as : (form : Form) (header : List (List ℕ)) (columns : Columns) (others : TableChanges) → delimiter_of form ≡ 44 → comment_of form ≡ None → form.has_header ≡ true
      → SaysChanges form false answer.bytes.items header header columns others → SaysChanges settings.form settings.groups answer.bytes.items header header columns others
  says_as form header columns others ed ec eh says = (
    says.0,
    (
      says.1.0,
      subst₂ (λ d c. AreRows d c answer.bytes.items says.1.0) (ed ∙ sym commas) (ec ∙ sym no_comment) says.1.1,
      subst (λ b. HeadedBy b Changes says.1.0 header) (eh ∙ sym headed) says.1.2,
      says.1.3 ∙ ap (λ b. map (signed_under header columns) (behind_header b says.1.0)) (eh ∙ sym headed),
    ),
    subst (λ g. PairsRows g (gone_rows says.0) (come_rows says.0) others) (sym alone_each) says.2,
  )

  pub says_changes : SaysOnlyChanges answer.bytes.items (diff.diff_key old_fields new_fields) (diff.diff_rest old_fields new_fields) (diff.changes_between old new)
  says_changes form header columns others ed ec eh ek er says =
      let known = diff.columns_known d plain old_fields new_fields old_records new_records old_known new_known old new old_up new_up old_moved new_moved in
      let kept = law settings old_form new_form old_text new_text answer header columns others has parts begins plain.order d
      (record { key = ek ∙ sym known.key; rest = er ∙ sym known.rest }) (says_as form header columns others ed ec eh says) in
      diff.changes_known d plain old_fields new_fields old_records new_records old_known new_known old new old_up new_up old_moved new_moved others kept

-- a text that is compared with itself has no changes, where its header is known
pub same_status : {settings : Settings} {form : Form} {text : List ℕ} {answer : Answer} (d : DiffsTexts settings form form text text answer) (law : OneTableLaw) (plain : IsPlain settings)
    (fields : List (List ℕ)) (records : List (List (List ℕ))) (known : IsKnown form text fields records) → headers_differ fields fields ≡ false → answer.status ≡ 0
same_status {settings} {form} {text} d law plain fields records known alike =
    let header = header_is form text fields records known settings.groups d.header d.names d.columns d.old d.old_says in
    let names : d.names ≡ fields = names_are settings plain d.header d.names d.named ∙ header in
    let next = header_is form text fields records known settings.groups d.next_header d.next_header d.columns d.new d.new_says in
    let old_says = subst₂ (λ h n. SaysTable form Rows settings.groups text h n d.columns d.old) header names d.old_says in
    let new_says = subst (λ h. SaysTable form Rows settings.groups text h h d.columns d.new) next d.new_says in
    let same : d.old ≡ d.new = law form Rows settings.groups text fields fields d.columns d.old d.new old_says new_says in
    d.status.2 ∙ ap status_of (d.status.1.1 (same, ap (λ n. headers_differ n d.next_header) names ∙ ap (headers_differ fields) next ∙ alike))

-- what `apply` makes of a table and of what `diff` wrote between it and another one is the file of the other one
module _ {settings : Settings} {old_form new_form : Form} {old_text new_text : List ℕ} {difference answer : Answer}
    (d : DiffsTexts settings old_form new_form old_text new_text difference) (a : AppliesTexts settings Forward old_form settings.form old_text difference.bytes.items answer)
    (law : DiffedTextLaw) (plain : IsPlain settings) (has : writes_heading settings.form ≡ true) (old_has : old_form.has_header ≡ true) (new_has : new_form.has_header ≡ true)
    (parts : PartsCells (delimiter_of settings.form)) (begins : BeginsComments (delimiter_of settings.form) (comment_of settings.form))
    (old_once : NamesOnce old_form old_text) (new_once : NamesOnce new_form new_text)
    (old_fields new_fields changes_fields : List (List ℕ)) (old_records new_records changes_records : List (List (List ℕ)))
    (old_known : IsKnown old_form old_text old_fields old_records) (new_known : IsKnown new_form new_text new_fields new_records)
    (changes_known : apply.AreKnown settings.form difference.bytes.items changes_fields changes_records) where
  abbrev key : List (List ℕ)
  key = apply.apply_key old_fields (names_said Changes changes_fields)

  abbrev rest : List (List ℕ)
  rest = apply.apply_rest old_fields (names_said Changes changes_fields) (names_going 1 changes_fields)

  abbrev order : List Place
  order = apply.apply_order old_fields (names_said Changes changes_fields) (names_going 1 changes_fields)

  made : AnswersTableOf settings a.applied.style a.columns new_form new_text d.names answer
  made =
      law settings old_form new_form old_text new_text difference answer has old_has new_has parts begins plain.order old_once new_once plain.key plain.renames d a

  module _ (new : KeyedRows) (new_up : Up key_cmp (λ k. ⊤) new) (new_moved : IsPermutation (rows_by new_fields key rest new_records) new) where
    makes_other : (named : Style) → IsStyled old_form settings.form.writing.heading old_text named
        → IsInStyle (IsButForEnd named) (λ s. IsTableFileOf (in_style s settings.form) order key rest (map alone new)) answer
    makes_other named known =
        let columns = apply.columns_known a plain old_fields changes_fields old_records changes_records old_known changes_known in
        let header = header_is new_form new_text new_fields new_records new_known settings.groups made.header made.header a.columns made.table made.says in
        let table : made.table ≡ map alone new =
        table_is new_form new_text new_fields new_records new_known settings.groups made.header made.header a.columns made.table made.says
        new_fields key rest new header columns.key columns.rest new_moved new_up in
        let written = in_style a.applied.style settings.form in
        record {
          style = a.applied.style;
          styled = named_style old_form settings.form.writing.heading old_text named a.applied.style known a.applied.styled;
          bytes = table_file_is written a.columns None true (map alone new) answer.bytes.items order key rest columns.order columns.key columns.rest (refl, refl)
              (λ writes. made.spells ∙ sym made.names)
              (subst (λ t. IsTableFile written a.columns None true t answer.bytes.items) table made.answers.2);
          status = made.answers.0;
          outcome = made.answers.1;
        }

-- the same where both commands have their settings and texts from calls of their own, which are the same
module _ {first settings : Settings} {first_form old_form new_form changes_form : Form} {first_text old_text new_text changes_text old_literal new_literal : List ℕ} {difference answer : Answer}
    (d : DiffsTexts first first_form new_form first_text new_text difference) (a : AppliesTexts settings Forward old_form changes_form old_text changes_text answer)
    (alike : first ≡ settings) (form_alike : first_form ≡ old_form) (text_alike : first_text ≡ old_text) (changes_alike : changes_form ≡ settings.form)
    (same : changes_text ≡ difference.bytes.items) (law : DiffedTextLaw) (plain : IsPlain settings) (has : writes_heading settings.form ≡ true)
    (old_has : old_form.has_header ≡ true) (new_has : new_form.has_header ≡ true)
    (parts : PartsCells (delimiter_of settings.form)) (begins : BeginsComments (delimiter_of settings.form) (comment_of settings.form))
    (old_fields new_fields changes_fields : List (List ℕ)) (old_records new_records changes_records : List (List (List ℕ)))
    (old_is : old_text ≡ old_literal) (old_rows : AreRows (delimiter_of old_form) (comment_of old_form) old_literal (old_fields ∷ old_records)) (old_once : repeats [] old_fields ≡ false)
    (new_is : new_text ≡ new_literal) (new_rows : AreRows (delimiter_of new_form) (comment_of new_form) new_literal (new_fields ∷ new_records)) (new_once : repeats [] new_fields ≡ false)
    (changes_known : apply.AreKnown settings.form difference.bytes.items changes_fields changes_records) (new : KeyedRows) (new_up : Up key_cmp (λ k. ⊤) new)
    (new_moved : IsPermutation (rows_by new_fields (apply.apply_key old_fields (names_said Changes changes_fields))
    (apply.apply_rest old_fields (names_said Changes changes_fields) (names_going 1 changes_fields)) new_records) new) where
  pub made_other : (named : Style) → IsStyled old_form settings.form.writing.heading old_text named → IsInStyle (IsButForEnd named) (λ s. IsTableFileOf (in_style s settings.form) (apply.apply_order old_fields (names_said Changes changes_fields) (names_going 1 changes_fields))
      (apply.apply_key old_fields (names_said Changes changes_fields)) (apply.apply_rest old_fields (names_said Changes changes_fields) (names_going 1 changes_fields)) (map alone new)) answer
  made_other named known =
      let differs : DiffsTexts settings old_form new_form old_text new_text difference =
      subst (λ s. DiffsTexts s old_form new_form old_text new_text difference) alike
      (subst₂ (λ f t. DiffsTexts first f new_form t new_text difference) form_alike text_alike d) in
      let applies : AppliesTexts settings Forward old_form settings.form old_text difference.bytes.items answer =
      subst₂ (λ f t. AppliesTexts settings Forward old_form f old_text t answer) changes_alike same a in
      makes_other differs applies law plain has old_has new_has parts begins
      (names_once old_form old_text old_literal old_fields old_records old_is old_rows old_once) (names_once new_form new_text new_literal new_fields new_records new_is new_rows new_once)
      old_fields new_fields changes_fields old_records new_records changes_records (known_text old_form old_text old_literal old_fields old_records old_is old_has old_rows old_once)
      (known_text new_form new_text new_literal new_fields new_records new_is new_has new_rows new_once) changes_known new new_up new_moved named known

-- what `merge` makes of three versions, of which one alone changed what stands under each key, is the file of the rows that have each change
module _ {settings : Settings} {base_form ours_form theirs_form : Form} {base_text ours_text theirs_text : List ℕ} {answer : Answer}
    (m : MergesTexts Report unit.Row settings base_form ours_form theirs_form base_text ours_text theirs_text answer) (law : OneSideLaw) (made : answer.outcome ≡ Made)
    (plain : IsPlain settings) (base_fields ours_fields theirs_fields : List (List ℕ)) (base_records ours_records theirs_records : List (List (List ℕ)))
    (base_known : IsKnown base_form base_text base_fields base_records) (ours_known : IsKnown ours_form ours_text ours_fields ours_records)
    (theirs_known : IsKnown theirs_form theirs_text theirs_fields theirs_records)
    (base ours theirs : KeyedRows) (base_up : Up key_cmp (λ k. ⊤) base) (ours_up : Up key_cmp (λ k. ⊤) ours) (theirs_up : Up key_cmp (λ k. ⊤) theirs)
    (base_moved : IsPermutation (rows_by base_fields (merge.merge_key base_fields ours_fields theirs_fields) (merge.merge_rest base_fields ours_fields theirs_fields) base_records) base)
    (ours_moved : IsPermutation (rows_by ours_fields (merge.merge_key base_fields ours_fields theirs_fields) (merge.merge_rest base_fields ours_fields theirs_fields) ours_records) ours)
    (theirs_moved : IsPermutation (rows_by theirs_fields (merge.merge_key base_fields ours_fields theirs_fields) (merge.merge_rest base_fields ours_fields theirs_fields) theirs_records) theirs) where
  abbrev merged_key : List (List ℕ)
  merged_key = merge.merge_key base_fields ours_fields theirs_fields

  abbrev merged_rest : List (List ℕ)
  merged_rest = merge.merge_rest base_fields ours_fields theirs_fields

  abbrev merged_order : List Place
  merged_order = merge.merge_order base_fields ours_fields theirs_fields

  pub has_both : (wanted : TableRows) → Rising key_cmp wanted
      → ((rows : TableRows) → KeepsOneSide (map alone base) (map alone ours) (map alone theirs) rows → (k : List (List ℕ)) → value_under key_cmp rows k ≡ value_under key_cmp wanted k)
      → IsTableFileOf (in_style m.merged.style settings.form) merged_order merged_key merged_rest wanted answer.bytes.items
  has_both wanted rises same =
      let merged = law settings base_form ours_form theirs_form base_text ours_text theirs_text answer m made in
      let keeps : KeepsOneSide (map alone base) (map alone ours) (map alone theirs) merged.0 =
      merge.of_tables m plain base_fields ours_fields theirs_fields base_records ours_records theirs_records base_known ours_known theirs_known
      base ours theirs base_up ours_up theirs_up base_moved ours_moved theirs_moved (λ b o t. KeepsOneSide b o t merged.0) merged.1 in
      let columns = merge.columns_known m plain base_fields ours_fields theirs_fields base_records ours_records theirs_records base_known ours_known theirs_known
      base ours theirs base_up ours_up theirs_up base_moved ours_moved theirs_moved in
      let rows : merged.0 ≡ wanted =
      same_table key_cmp key_total (List (List (List ℕ))) key_exact (λ k. value_under key_cmp wanted k) merged.0 wanted
      (record { rises = keeps.rises; values = same merged.0 keeps }) (record { rises = rises; values = λ k. refl }) in
      table_file_is (in_style m.merged.style settings.form) m.columns m.merged.keys m.merged.by_cells wanted answer.bytes.items merged_order merged_key merged_rest
      columns.order columns.key columns.rest (m.merged.order plain.order)
      (merge.heads m plain base_fields ours_fields theirs_fields base_records ours_records theirs_records base_known ours_known theirs_known
      base ours theirs base_up ours_up theirs_up base_moved ours_moved theirs_moved)
      (subst (λ r. IsTableFile (in_style m.merged.style settings.form) m.columns m.merged.keys m.merged.by_cells r answer.bytes.items) rows merged.2)
