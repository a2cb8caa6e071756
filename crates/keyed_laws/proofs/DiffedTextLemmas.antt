-- What `apply` answers of a text, and of what `diff` wrote between it and another: the other.
use Rattle.std.proofs.Common.{◌≡◌, ◌∙◌, ◌++◌, ℕ, Bool, Bor, true, false, List, [], ◌∷◌, None, Option, Some, map, refl, sym, ap, ap₂, subst, subst₂, take}
use Rattle.std.specs.Prelude.{MatchBool}
use Rattle.std.specs.List.{flat_map}
use Rattle.std.proofs.lemmas.List.{append-nil}
use Rattle.eob_joins.specs.Changes.{changed}
use Rattle.eob_joins.specs.Tables.{IsKeptOfJoin}
use Rattle.keyed_requests.specs.AnswerForm.{in_style, writes_heading}
use Rattle.keyed_requests.specs.FormBytes.{comment_of, delimiter_of}
use Rattle.keyed_requests.specs.declared.request.Form.{Form}
use Rattle.keyed_requests.specs.declared.request.Settings.{Settings}
use Rattle.keyed_columns.specs.ChangedColumns.{changed_names, name_each}
use Rattle.keyed_columns.specs.ColumnNames.{WriteNames, column_names, distinct, has_name, or_header}
use Rattle.keyed_columns.specs.Going.{going}
use Rattle.keyed_columns.specs.Keys.{AreKeyNames, first_name}
use Rattle.keyed_columns.specs.Names.{repeats}
use Rattle.keyed_columns.specs.CellsUnder.{cell_under, row_under}
use Rattle.keyed_columns.specs.Placed.{names_headed, names_placed, placed}
use Rattle.keyed_columns.specs.declared.columns.Columns.{Columns}
use Rattle.keyed_requests.specs.declared.request.Direction.TheVariants.{Forward}
use Rattle.keyed_columns.specs.declared.content.Content.TheVariants.{Rows}
use Rattle.keyed_columns.proofs.LawLemmas.{distinct-once, writes-names}
use Rattle.keyed_files.specs.Gone.{GoneBy}
use Rattle.keyed_files.specs.Reading.{HeadedBy, behind_header}
use Rattle.keyed_files.specs.Rows.{change_name}
use Rattle.keyed_text.specs.Texts.{AreRows, BeginsComments, PartsCells}
use Rattle.keyed_text.proofs.TextLemmas.{rows-once}
use Rattle.keyed_jobs.specs.Answers.{AnswersTable, Stops, TableRows, key_cmp, rows_eq}
use Rattle.keyed_jobs.specs.Lost.{loses}
use Rattle.keyed_jobs.specs.ChangeRows.{changes_rows}
use Rattle.keyed_jobs.specs.MadeChanges.{made_in}
use Rattle.keyed_jobs.specs.TablesRead.{AreNames, AreNamesBy, DiffsTexts, SaysTable}
use Rattle.keyed_jobs.specs.declared.answer.Answer.{Answer}
use Rattle.keyed_commands.specs.AppliedTexts.{AnswersApplied, AppliesTexts}
use Rattle.keyed_laws.specs.TextLaws.{AnswersTableOf, AreReadAs, DiffedTextByLaw, DiffedTextLaw, MakesTable, NamesOnce}
use Rattle.keyed_laws.proofs.ColumnsBackLemmas.{WritesOf, columns-within, gone-apart, gone_between, header-within, marked-gone, names-each, writes-alike, written-once}
use Rattle.keyed_laws.proofs.LossLemmas.{loses-none}
use Rattle.keyed_laws.proofs.MadeLemmas.{whole-made}
use Rattle.keyed_laws.proofs.LawLemmas.{diff_apply, has-header}
use Rattle.keyed_laws.proofs.SpelledLemmas.{spelled-once, spells-plainly}
use Rattle.keyed_laws.proofs.TableBackLemmas.{says-only}
use Rattle.keyed_laws.proofs.TextLawLemmas.{all_of, changes-header, diff-says, groups-are, one-table-law, read_back, table-rises}

-- names where no column has another one
kept_names : {A : Type 0} (key : Option A) (header names : List (List ℕ)) → key ≡ None → AreNames key header names → names ≡ header
kept_names None header names e h = h
kept_names (Some key) header names e h = absurd (cc)

names_kept : (settings : Settings) (header names : List (List ℕ)) → settings.key ≡ None → settings.renames ≡ None → AreNamesBy settings header names → names ≡ header
names_kept settings header names k r h = kept_names settings.renames h.0 names r h.2 ∙ kept_names settings.key header h.0 k h.1

-- the key where none is set
first_key : (key : Option (Bor (List ℕ))) (headers : List (List (List ℕ))) (first others : List (List ℕ)) → key ≡ None → AreKeyNames key headers first others → others ≡ first_name headers
first_key None headers first others e h = h.1
first_key (Some key) headers first others e h = absurd (cc)

same_first : (old new : List (List ℕ)) → repeats [] new ≡ false → first_name (old ∷ column_names (new ∷ old ∷ []) ∷ []) ≡ first_name (old ∷ new ∷ [])
same_first [] new once = ap (λ l. take 1 (l ++ [])) (ap distinct (append-nil new) ∙ distinct-once new once)
same_first (name ∷ old) new once = refl

-- the header of a text whose names are each once
abbrev FirstOnce : List (List (List ℕ)) → Type 0
FirstOnce records = (fields : List (List ℕ)) (rest : List (List (List ℕ))) → records ≡ fields ∷ rest → repeats [] fields ≡ false

first_once : (form : Form) (text : List ℕ) (records : List (List (List ℕ))) → AreRows (delimiter_of form) (comment_of form) text records → NamesOnce form text → FirstOnce records
first_once form text records are once = λ fields rest e. once fields rest (subst (AreRows (delimiter_of form) (comment_of form) text) e are)

header_same : (records : List (List (List ℕ))) (header other : List (List ℕ)) → HeadedBy true Rows records header → HeadedBy true Rows records other → FirstOnce records → header ≡ other
header_same [] header other a b once = a ∙ sym b
header_same (fields ∷ rest) header other a b once = a (once fields rest refl) ∙ sym (b (once fields rest refl))

header_once : (records : List (List (List ℕ))) (header : List (List ℕ)) → HeadedBy true Rows records header → FirstOnce records → repeats [] header ≡ false
unfolding repeats
header_once [] header a once = ap (repeats []) a
header_once (fields ∷ rest) header a once = ap (repeats []) (a (once fields rest refl)) ∙ once fields rest refl

said_once : (form : Form) (groups : Bool) (text : List ℕ) (header names : List (List ℕ)) (columns : Columns) (table : TableRows) → form.has_header ≡ true → NamesOnce form text
    → SaysTable form Rows groups text header names columns table → repeats [] header ≡ false
said_once form groups text header names columns table has once h =
    header_once h.1.0 header (subst (λ b. HeadedBy b Rows h.1.0 header) has h.1.2) (first_once form text h.1.0 h.1.1 once)

-- a table that is read by the same columns, in another order
under_alike : (names : List (List ℕ)) (columns others : Columns) (records : List (List (List ℕ))) → AreReadAs columns others
    → map (row_under Rows names columns) records ≡ map (row_under Rows names others) records
under_alike names columns others records alike =
    ap₂ (λ key rest. map (λ fields. (map (cell_under Rows names fields) key, map (cell_under Rows names fields) rest)) records) (sym alike.key) (sym alike.rest)

says_alike : (form : Form) (groups : Bool) (text : List ℕ) (header header2 names names2 : List (List ℕ)) (columns others : Columns) (table : TableRows)
    → header ≡ header2 → names ≡ names2 → AreReadAs columns others
    → SaysTable form Rows groups text header names columns table → SaysTable form Rows groups text header2 names2 others table
says_alike form groups text header header2 names names2 columns others table e f alike h = (
  h.0,
  (
    h.1.0,
    h.1.1,
    subst (HeadedBy form.has_header Rows h.1.0) e h.1.2,
    h.1.3 ∙ ap (λ n. map (row_under Rows n columns) (behind_header form.has_header h.1.0)) f ∙ under_alike names2 columns others (behind_header form.has_header h.1.0) alike,
  ),
  h.2,
)

module _ (settings : Settings) (old_form new_form : Form) (old_text new_text : List ℕ) (difference answer : Answer)
    (has : writes_heading settings.form ≡ true) (has_old : old_form.has_header ≡ true) (has_new : new_form.has_header ≡ true)
    (parts : PartsCells (delimiter_of settings.form)) (begins : BeginsComments (delimiter_of settings.form) (comment_of settings.form))
    (plain : settings.keeps_order ≡ false) (once_old : NamesOnce old_form old_text) (once_new : NamesOnce new_form new_text)
    (diffs : DiffsTexts settings old_form new_form old_text new_text difference)
    (applies : AppliesTexts settings Forward old_form settings.form old_text difference.bytes.items answer) where
  abbrev all : List (List ℕ)
  all = all_of settings old_form new_form old_text new_text difference has parts begins plain diffs

  -- both read the same header
  same_header : diffs.header ≡ applies.header
  same_header =
      let same = rows-once (delimiter_of old_form) (comment_of old_form) old_text applies.old_says.1.0 diffs.old_says.1.0 applies.old_says.1.1 diffs.old_says.1.1 in
      header_same diffs.old_says.1.0 diffs.header applies.header
      (subst (λ b. HeadedBy b Rows diffs.old_says.1.0 diffs.header) has_old diffs.old_says.1.2)
      (subst₂ (λ b records. HeadedBy b Rows records applies.header) has_old same applies.old_says.1.2)
      (first_once old_form old_text diffs.old_says.1.0 diffs.old_says.1.1 once_old)

  new_once : repeats [] diffs.next_header ≡ false
  new_once = said_once new_form settings.groups new_text diffs.next_header diffs.next_header diffs.columns diffs.new has_new once_new diffs.new_says

  same_changes : applies.changes_header ≡ all
  same_changes =
      changes-header settings old_form new_form old_text new_text difference has parts begins plain diffs applies.changes_header applies.columns applies.changes applies.changes_say

  module _ (same_names : applies.names ≡ diffs.names) (old_once : repeats [] diffs.names ≡ false)
      (same_key : applies.columns.key ≡ diffs.columns.key) where
    -- those columns go that the new header lacks
    is_gone : applies.gone ≡ gone_between diffs.names diffs.next_header
    is_gone =
        let read = read_back settings old_form new_form old_text new_text difference has parts begins plain diffs in
        let same = rows-once (delimiter_of settings.form) (comment_of settings.form) difference.bytes.items applies.gone_said.0 _ applies.gone_said.1 read.2 in
        let said : GoneBy true ((change_name ∷ diffs.changes.marked) ∷ changes_rows diffs.columns.order.items read.0) applies.gone =
        subst₂ (λ b records. GoneBy b records applies.gone) (has-header settings.form has) same applies.gone_said.2 in
        said ∙ ap (flat_map going) diffs.marks ∙ marked-gone diffs.names diffs.next_header old_once new_once

    abbrev Writes : List (List ℕ) → List (List ℕ) → List (List ℕ) → Type 0
    Writes key old changes = WriteNames key (changed_names old changes applies.gone) (changes ∷ old ∷ applies.gone ∷ []) applies.columns

    writes : Writes diffs.columned.others diffs.names all
    writes = subst (λ k. Writes k diffs.names all) (sym applies.columned.are.key ∙ same_key ∙ diffs.columned.are.key)
        (subst₂ (λ o a. Writes applies.columned.others o a) same_names same_changes applies.columned.are)

    written : (changed_names diffs.names all applies.gone ≡ or_header diffs.next_header diffs.names)
        × WritesOf diffs.columned.others (or_header diffs.next_header diffs.names) applies.gone diffs.columns applies.columns
    written =
        writes-alike diffs.names diffs.next_header diffs.columned.others applies.gone diffs.columns applies.columns old_once new_once is_gone diffs.columned.are writes

    alike : AreReadAs diffs.columns applies.columns
    alike = record { key = same_key; rest = written.1.rest }

    same_old : diffs.old ≡ applies.old
    same_old =
        one-table-law old_form Rows settings.groups old_text applies.header applies.names applies.columns diffs.old applies.old
        (says_alike old_form settings.groups old_text diffs.header applies.header diffs.names applies.names diffs.columns applies.columns diffs.old same_header (sym same_names) alike diffs.old_says)
        applies.old_says

    changes_are : IsKeptOfJoin key_cmp (changed rows_eq) applies.old diffs.new applies.changes
    changes_are =
        subst (λ old. IsKeptOfJoin key_cmp (changed rows_eq) old diffs.new applies.changes) same_old
        (diff-says settings old_form new_form old_text new_text difference has parts begins plain diffs applies.changes_header applies.columns applies.changes applies.changes_say alike)

    -- the form that the answer is written in
    abbrev written_in : Form
    written_in = in_style applies.applied.style settings.form

    -- the changes name each column of the old table
    made_whole : made_in applies.names applies.changes_header applies.columns Forward applies.old applies.changes ≡ applies.changes
    made_whole =
        whole-made applies.names applies.changes_header applies.columns Forward applies.old applies.changes
        (ap₂ (λ o a. name_each o a) same_names same_changes ∙ names-each diffs.names all (columns-within diffs.next_header diffs.names).1)

    applied : AnswersApplied written_in applies.columns None true applies.old applies.changes answer
    applied =
        let ordered = applies.applied.order plain in
        subst (λ changes. AnswersApplied written_in applies.columns None true applies.old changes answer) made_whole
        (subst₂ (λ keys by_cells. AnswersApplied written_in applies.columns keys by_cells applies.old
        (made_in applies.names applies.changes_header applies.columns Forward applies.old applies.changes) answer) ordered.0 ordered.1 applies.applied.applied)

    answers : AnswersTable written_in applies.columns None true diffs.new answer
    answers =
        diff_apply written_in applies.columns None true applies.old diffs.new applies.changes answer
        (table-rises old_form settings.groups old_text applies.header applies.names applies.columns applies.old applies.old_says)
        (table-rises new_form settings.groups new_text diffs.next_header diffs.next_header diffs.columns diffs.new diffs.new_says)
        changes_are applied.fits

    -- the names that are written, and those of the new table among them
    writes_names : WriteNames diffs.columned.others (or_header diffs.next_header diffs.names) (all ∷ diffs.names ∷ applies.gone ∷ []) applies.columns
    writes_names = subst (λ w. WriteNames diffs.columned.others w (all ∷ diffs.names ∷ applies.gone ∷ []) applies.columns) written.0 writes

    -- no cell is lost: the new table has none in columns that go
    keeps_cells : loses applies.columns diffs.new ≡ false
    keeps_cells =
        loses-none diffs.next_header diffs.columned.others (or_header diffs.next_header diffs.names) applies.gone diffs.columns applies.columns
        (λ name e. gone-apart diffs.names diffs.next_header name (subst (λ g. has_name g name ≡ true) is_gone e)) written.1 diffs.new
        (groups-are new_form settings.groups new_text diffs.next_header diffs.next_header diffs.columns diffs.new diffs.new_says)

    new_says : SaysTable new_form Rows settings.groups new_text diffs.next_header diffs.next_header applies.columns diffs.new
    new_says =
        says_alike new_form settings.groups new_text diffs.next_header diffs.next_header diffs.next_header diffs.next_header diffs.columns applies.columns diffs.new refl refl alike diffs.new_says

    made_is : MakesTable written_in applies.columns diffs.new answer
    made_is = subst (λ b. MatchBool b (Stops answer) (MakesTable written_in applies.columns diffs.new answer)) keeps_cells answers

    written_once : repeats [] (or_header diffs.next_header diffs.names) ≡ false
    written_once = written-once diffs.names diffs.next_header old_once new_once

    -- the heading has the names that are written, since the old header has each of its names once
    spells : names_headed applies.columns ≡ names_placed applies.columns
    spells =
        spells-plainly applies.header applies.spelled applies.columns applies.spells
        (spelled-once old_form old_text applies.header applies.spelled applies.old_says.1.0 has_old applies.old_says.1.1 applies.old_says.1.2 applies.spelled_said
        (first_once old_form old_text applies.old_says.1.0 applies.old_says.1.1 once_old))

    names_are_written : placed applies.columns.order.items applies.columns.key applies.columns.rest ≡ or_header diffs.next_header diffs.names
    names_are_written =
        (writes-names diffs.columned.others (or_header diffs.next_header diffs.names) (all ∷ diffs.names ∷ applies.gone ∷ []) applies.columns writes_names written_once).0

    pub diffed-text : AnswersTableOf settings applies.applied.style applies.columns new_form new_text diffs.names answer
    diffed-text = record {
      header = diffs.next_header;
      table = diffs.new;
      names = names_are_written;
      spells = spells ∙ names_are_written;
      says = new_says;
      answers = made_is;
      reads = λ some unmarked each. says-only diffs.next_header diffs.columned.others (or_header diffs.next_header diffs.names) (all ∷ diffs.names ∷ applies.gone ∷ []) applies.columns
          (header-within diffs.next_header diffs.names) writes_names written_once written_in new_form settings.groups answer.bytes.items new_text diffs.next_header diffs.new
          has parts begins spells new_says made_is.2 some unmarked each;
    }

  -- where no key is set and no column has another name
  module _ (no_key : settings.key ≡ None) (no_renames : settings.renames ≡ None) where
    diffs_names : diffs.names ≡ diffs.header
    diffs_names = names_kept settings diffs.header diffs.names no_key no_renames diffs.named

    names_are : applies.names ≡ diffs.names
    names_are = names_kept settings applies.header applies.names no_key no_renames applies.named ∙ sym same_header ∙ sym diffs_names

    old_names_once : repeats [] diffs.names ≡ false
    old_names_once = ap (repeats []) diffs_names ∙ said_once old_form settings.groups old_text diffs.header diffs.names diffs.columns diffs.old has_old once_old diffs.old_says

    key_is : applies.columns.key ≡ diffs.columns.key
    key_is =
        applies.columned.are.key
        ∙ first_key settings.key (applies.names ∷ applies.changes_header ∷ []) applies.columned.first applies.columned.others no_key applies.columned.names
        ∙ ap₂ (λ o a. first_name (o ∷ a ∷ [])) names_are same_changes ∙ same_first diffs.names diffs.next_header new_once
        ∙ sym (first_key settings.key (diffs.names ∷ diffs.next_header ∷ []) diffs.columned.first diffs.columned.others no_key diffs.columned.names)
        ∙ sym diffs.columned.are.key

    pub diffed-plainly : AnswersTableOf settings applies.applied.style applies.columns new_form new_text diffs.names answer
    diffed-plainly = diffed-text names_are old_names_once key_is

pub diffed-text-by-law : DiffedTextByLaw
diffed-text-by-law settings old_form new_form old_text new_text difference answer has has_old has_new parts begins plain once_old once_new diffs applies names once key =
    diffed-text settings old_form new_form old_text new_text difference answer has has_old has_new parts begins plain once_old once_new diffs applies names once key

pub diffed-text-law : DiffedTextLaw
diffed-text-law settings old_form new_form old_text new_text difference answer has has_old has_new parts begins plain once_old once_new no_key no_renames diffs applies =
    diffed-plainly settings old_form new_form old_text new_text difference answer has has_old has_new parts begins plain once_old once_new diffs applies no_key no_renames
