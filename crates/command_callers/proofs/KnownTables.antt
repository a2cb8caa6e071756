-- The table of a text whose records are known, and its columns.
use Rattle.std.proofs.Common.{◌≡◌, ◌∙◌, ◌++◌, ℕ, Bool, Bor, true, false, List, [], ◌∷◌, length, map, nat_eq, IsPermutation, Option, None, Some, ap, refl, subst, sym}
use Rattle.std.specs.Prelude.{◌==◌, ◌&&◌, ◌||◌, ⊤, not, if◌then◌else◌}
use Rattle.std.specs.Cmp.Lexicographic.{pointwise}
use Rattle.eob_lists.proofs.MergeLemmas.{Up}
use Rattle.keyed_requests.specs.AnswerForm.{in_style, writes_heading}
use Rattle.keyed_requests.specs.FormBytes.{comment_of, delimiter_of}
use Rattle.keyed_requests.specs.declared.request.Form.{Form}
use Rattle.keyed_requests.specs.declared.request.Settings.{Settings}
use Rattle.keyed_columns.specs.ColumnNames.{HaveNames, column_names}
use Rattle.keyed_columns.specs.Headers.{names_counted}
use Rattle.keyed_columns.specs.Keys.{AreColumnsBy, AreKeyNames, first_name}
use Rattle.keyed_columns.specs.Names.{repeats}
use Rattle.keyed_columns.specs.CellsUnder.{cell_under, row_under}
use Rattle.keyed_columns.specs.Placed.{names_headed, names_placed, placed}
use Rattle.keyed_columns.specs.Spelled.{IsSpelledAs, SpelledBy, SpelledOf}
use Rattle.keyed_columns.specs.declared.columns.Columns.{Columns}
use Rattle.keyed_columns.specs.declared.columns.Place.{Place}
use Rattle.keyed_columns.specs.declared.content.Content.TheVariants.{Rows}
use Rattle.keyed_files.specs.Reading.{HeadedBy, IsTable, behind_header, parts_of}
use Rattle.keyed_files.specs.Rows.{heading, table_rows}
use Rattle.keyed_files.specs.SpelledFiles.{IsFileIn}
use Rattle.keyed_files.specs.Writing.{file_text}
use Rattle.keyed_rows.specs.declared.row.ReadRow.{ReadRow}
use Rattle.keyed_tables.specs.Arranged.{AreArranged}
use Rattle.keyed_tables.specs.Gathered.{alone}
use Rattle.keyed_text.specs.Texts.{AreRows}
use Rattle.keyed_text.specs.declared.style.Style.{Style}
use Rattle.keyed_text.proofs.TextLemmas.{rows-once}
use Rattle.keyed_jobs.specs.Answers.{IsTableFile, IsTableText, TableRows, key_cmp}
use Rattle.keyed_jobs.specs.ComeOut.{AlikeRows, ComesOut, HasGroups}
use Rattle.keyed_jobs.specs.TablesRead.{AreNames, AreNamesBy, SaysTable}
use Rattle.keyed_jobs.proofs.AnswerLemmas.{key_exact, key_total}
use Rattle.keyed_laws.proofs.LawLemmas.{has-header}
use Rattle.keyed_laws.proofs.SpelledLemmas.{spells-plainly}
use Rattle.command_callers.proofs.KnownRows.{gathered}

-- rows by key
abbrev pub KeyedRows : Type 0
KeyedRows = List (List (List ℕ) × List (List ℕ))

-- the settings of a command that reads tables by their first column, and writes rows in the order of their keys
pub record IsPlain (settings : Settings) : Type 0 where
  pub key : settings.key ≡ None
  pub renames : settings.renames ≡ None
  pub order : settings.keeps_order ≡ false

pub plain_names : {A : Type 0} (key : Option A) (header names : List (List ℕ)) → key ≡ None → AreNames key header names → names ≡ header
plain_names None header names e h = h
plain_names (Some key) header names e h = absurd (cc)

-- the names by which columns are read are then those of the header
pub names_are : (settings : Settings) → IsPlain settings → (header names : List (List ℕ)) → AreNamesBy settings header names → names ≡ header
names_are settings plain header names h = plain_names settings.renames h.0 names plain.renames h.2 ∙ plain_names settings.key header h.0 plain.key h.1

-- and the key is the first column
pub plain_key : (key : Option (Bor (List ℕ))) (headers : List (List (List ℕ))) (first others : List (List ℕ)) → key ≡ None → AreKeyNames key headers first others
    → (first ≡ first_name headers) × (others ≡ first_name headers)
plain_key None headers first others e h = h
plain_key (Some key) headers first others e h = absurd (cc)

pub columns_are : (key : Option (Bor (List ℕ))) (tables headers : List (List (List ℕ))) (columns : Columns) → key ≡ None → AreColumnsBy key tables headers columns
    → HaveNames (first_name tables) (column_names headers) columns
columns_are key tables headers columns e h = subst (λ k. HaveNames k (column_names headers) columns) (plain_key key tables h.first h.others e h.names).1 h.are

-- a text in a form that is known: the names of its columns, and the records that are its rows
pub record IsKnown (form : Form) (text : List ℕ) (names : List (List ℕ)) (records : List (List (List ℕ))) : Type 0 where
  pub all : List (List (List ℕ))
  pub rows : AreRows (delimiter_of form) (comment_of form) text all
  pub named : (header : List (List ℕ)) → HeadedBy form.has_header Rows all header → header ≡ names
  pub behind : behind_header form.has_header all ≡ records
  pub plain : form.has_header ≡ true → (header spelled : List (List ℕ)) → HeadedBy form.has_header Rows all header → SpelledBy form.has_header Rows all spelled → spelled ≡ header

-- one with a header in which no name stands twice
pub known_text : (form : Form) (text literal : List ℕ) (fields : List (List ℕ)) (records : List (List (List ℕ))) → text ≡ literal → form.has_header ≡ true
    → AreRows (delimiter_of form) (comment_of form) literal (fields ∷ records) → repeats [] fields ≡ false → IsKnown form text fields records
known_text form text literal fields records e has are once = record {
  all = fields ∷ records;
  rows = subst (λ t. AreRows (delimiter_of form) (comment_of form) t (fields ∷ records)) (sym e) are;
  named = λ header h. let headed : HeadedBy true Rows (fields ∷ records) header = subst (λ b. HeadedBy b Rows (fields ∷ records) header) has h in headed once;
  behind = ap (λ b. behind_header b (fields ∷ records)) has;
  plain = λ _ header spelled h s.
      let headed : HeadedBy true Rows (fields ∷ records) header = subst (λ b. HeadedBy b Rows (fields ∷ records) header) has h in
      let said : SpelledBy true Rows (fields ∷ records) spelled = subst (λ b. SpelledBy b Rows (fields ∷ records) spelled) has s in
      said ∙ sym (headed once);
}

-- one with no header, whose columns have numbers for names
pub bare_text : (form : Form) (text literal : List ℕ) (names fields : List (List ℕ)) (records : List (List (List ℕ))) → text ≡ literal → form.has_header ≡ false
    → AreRows (delimiter_of form) (comment_of form) literal (fields ∷ records) → names_counted Rows fields ≡ names
    → IsKnown form text names (fields ∷ records)
bare_text form text literal names fields records e has are count = record {
  all = fields ∷ records;
  rows = subst (λ t. AreRows (delimiter_of form) (comment_of form) t (fields ∷ records)) (sym e) are;
  named = λ header h. let headed : HeadedBy false Rows (fields ∷ records) header = subst (λ b. HeadedBy b Rows (fields ∷ records) header) has h in headed ∙ count;
  behind = ap (λ b. behind_header b (fields ∷ records)) has;
  plain = λ headed header spelled h s. absurd (cc (sym has ∙ headed));
}

-- the rows of records under names, by key
abbrev pub rows_by : (names key rest : List (List ℕ)) → List (List (List ℕ)) → KeyedRows
rows_by names key rest records = map (λ fields. (map (cell_under Rows names fields) key, map (cell_under Rows names fields) rest)) records

module _ (form : Form) (text : List ℕ) (fields : List (List ℕ)) (records : List (List (List ℕ))) (known : IsKnown form text fields records)
    (header names : List (List ℕ)) (columns : Columns) (read : List ReadRow) (says : IsTable form Rows text header names columns read) where
  same_records : says.0 ≡ known.all
  same_records = rows-once (delimiter_of form) (comment_of form) text says.0 known.all says.1 known.rows

  -- its names are those of the text
  pub read_header : header ≡ fields
  read_header = known.named header (subst (λ rs. HeadedBy form.has_header Rows rs header) same_records says.2)

  -- the rows are those of its records
  rows_are : map parts_of read ≡ rows_by names columns.key columns.rest records
  rows_are =
      says.3 ∙ ap (λ rs. map (row_under Rows names columns) (behind_header form.has_header rs)) same_records ∙ ap (map (row_under Rows names columns)) known.behind

  pub read_rows : (known_names key rest : List (List ℕ)) → names ≡ known_names → columns.key ≡ key → columns.rest ≡ rest
      → map parts_of read ≡ rows_by known_names key rest records
  read_rows known_names key rest en ek er =
      rows_are ∙ ap (λ k. rows_by names k columns.rest records) ek ∙ ap (λ r. rows_by names key r records) er ∙ ap (λ n. rows_by n key rest records) en

module _ (form : Form) (text : List ℕ) (fields : List (List ℕ)) (records : List (List (List ℕ))) (known : IsKnown form text fields records)
    (groups : Bool) (header names : List (List ℕ)) (columns : Columns) (table : TableRows) (says : SaysTable form Rows groups text header names columns table) where
  pub header_is : header ≡ fields
  header_is = read_header form text fields records known header names columns says.0 says.1

  -- where the rows are known and no two have one key, so is the table
  pub table_is : (known_names key rest : List (List ℕ)) (rows : KeyedRows) → names ≡ known_names → columns.key ≡ key → columns.rest ≡ rest
      → IsPermutation (rows_by known_names key rest records) rows → Up key_cmp (λ k. ⊤) rows → table ≡ map alone rows
  table_is known_names key rest rows en ek er moved up =
      let parts : map parts_of says.0 ≡ rows_by known_names key rest records =
      read_rows form text fields records known header names columns says.0 says.1 known_names key rest en ek er in
      gathered key_cmp key_total key_exact rows (map parts_of says.0) table up (subst (λ l. IsPermutation l rows) (sym parts) moved) says.2.0

-- rows that come out in the order of keys are those that were to
pub came_out : {V : Type 0} (keys : Option (List (List (List ℕ)))) (by_cells : Bool) (P : V → V → Type 0) (xs ys : List (List (List ℕ) × V))
    → (keys ≡ None) × (by_cells ≡ true) → ComesOut keys by_cells P xs ys → ys ≡ xs
came_out {V} keys by_cells P xs ys order h =
    let arranged : AreArranged (pointwise (pointwise nat_eq)) None xs h.0 = subst (λ k. AreArranged (pointwise (pointwise nat_eq)) k xs h.0) order.0 h.2 in
    let grouped : HasGroups {K = List (List ℕ)} true P h.0 ys = subst (λ b. HasGroups {K = List (List ℕ)} b P h.0 ys) order.1 h.3 in
    grouped ∙ arranged

-- the heading of a table, if it is written, has the names of its columns, where these are spelled as a known text does that has each once
abbrev pub HeadsPlainly : Form → Columns → Type 0
HeadsPlainly form columns = writes_heading form ≡ true → names_headed columns ≡ names_placed columns

pub heads_plainly : (form settings_form : Form) (style : Style) (text : List ℕ) (fields : List (List ℕ)) (records : List (List (List ℕ))) (known : IsKnown form text fields records)
    (groups : Bool) (header names spelled : List (List ℕ)) (columns : Columns) (table : TableRows) → form.has_header ≡ settings_form.has_header
    → SaysTable form Rows groups text header names columns table → SpelledOf form Rows text spelled → IsSpelledAs header spelled columns
    → HeadsPlainly (in_style style settings_form) columns
heads_plainly form settings_form style text fields records known groups header names spelled columns table same says said spells = λ writes.
    let has : form.has_header ≡ true = same ∙ has-header settings_form writes in
    let all : says.1.0 ≡ known.all = rows-once (delimiter_of form) (comment_of form) text says.1.0 known.all says.1.1 known.rows in
    let too : said.0 ≡ known.all = rows-once (delimiter_of form) (comment_of form) text said.0 known.all said.1 known.rows in
    spells-plainly header spelled columns spells
    (known.plain has header spelled (subst (λ rs. HeadedBy form.has_header Rows rs header) all says.1.2) (subst (λ rs. SpelledBy form.has_header Rows rs spelled) too said.2))

-- the text of a table
abbrev pub headed : Form → List Place → (names : List (List ℕ)) → List (List (List ℕ))
headed form order names = if writes_heading form && (false || not (length order == 0)) then names ∷ [] else []

abbrev pub heading_by : Form → List Place → (key rest : List (List ℕ)) → List (List (List ℕ))
heading_by form order key rest = headed form order (placed order key rest)

headed_alike : (form : Form) (order : List Place) (names others : List (List ℕ)) (writes : Bool) → writes_heading form ≡ writes → (writes ≡ true → names ≡ others)
    → headed form order names ≡ headed form order others
headed_alike form order names others true is same = ap (headed form order) (same refl)
headed_alike form order names others false is same = rw is refl

pub heading_shown : (form : Form) (columns : Columns) (order : List Place) (key rest : List (List ℕ))
    → columns.order.items ≡ order → columns.key ≡ key → columns.rest ≡ rest → HeadsPlainly form columns → heading form None columns ≡ heading_by form order key rest
heading_shown form columns order key rest eo ek er heads =
    headed_alike form columns.order.items (names_headed columns) (names_placed columns) _ refl heads
    ∙ ap (λ o. heading_by form o columns.key columns.rest) eo ∙ ap (λ k. heading_by form order k columns.rest) ek ∙ ap (heading_by form order key) er

abbrev pub table_text : Form → List Place → (key rest : List (List ℕ)) → TableRows → List ℕ
table_text form order key rest rows = file_text form (heading_by form order key rest ++ table_rows order rows)

pub table_text_shown : (form : Form) (columns : Columns) (shown : TableRows) (text : List ℕ) (order : List Place) (key rest : List (List ℕ))
    → columns.order.items ≡ order → columns.key ≡ key → columns.rest ≡ rest → HeadsPlainly form columns
    → text ≡ file_text form (heading form None columns ++ table_rows columns.order.items shown) → text ≡ table_text form order key rest shown
table_text_shown form columns shown text order key rest eo ek er heads is =
    is
    ∙ ap (λ l. file_text form (l ++ table_rows columns.order.items shown)) (headed_alike form columns.order.items (names_headed columns) (names_placed columns) _ refl heads)
    ∙ ap (λ o. table_text form o columns.key columns.rest shown) eo ∙ ap (λ k. table_text form order k columns.rest shown) ek
    ∙ ap (λ r. table_text form order key r shown) er

-- the file of a table, whose rows may have spellings of their own
abbrev pub IsTableFileOf : Form → List Place → (key rest : List (List ℕ)) → TableRows → List ℕ → Type 0
IsTableFileOf form order key rest rows text = IsFileIn form (heading_by form order key rest ++ table_rows order rows) text

pub table_file_shown : (form : Form) (columns : Columns) (shown : TableRows) (text : List ℕ) (order : List Place) (key rest : List (List ℕ))
    → columns.order.items ≡ order → columns.key ≡ key → columns.rest ≡ rest → HeadsPlainly form columns
    → IsFileIn form (heading form None columns ++ table_rows columns.order.items shown) text → IsTableFileOf form order key rest shown text
table_file_shown form columns shown text order key rest eo ek er heads is =
    let rows : List Place → (key rest : List (List ℕ)) → List (List (List ℕ)) = λ o k r. heading_by form o k r ++ table_rows o shown in
    let same : heading form None columns ++ table_rows columns.order.items shown ≡ rows order key rest =
    ap (λ l. l ++ table_rows columns.order.items shown) (headed_alike form columns.order.items (names_headed columns) (names_placed columns) _ refl heads)
    ∙ ap (λ o. rows o columns.key columns.rest) eo ∙ ap (λ k. rows order k columns.rest) ek ∙ ap (rows order key) er in
    subst (λ l. IsFileIn form l text) same is

pub table_file_is : (form : Form) (columns : Columns) (keys : Option (List (List (List ℕ)))) (by_cells : Bool) (rows : TableRows) (text : List ℕ)
    (order : List Place) (key rest : List (List ℕ)) → columns.order.items ≡ order → columns.key ≡ key → columns.rest ≡ rest
    → (keys ≡ None) × (by_cells ≡ true) → HeadsPlainly form columns → IsTableFile form columns keys by_cells rows text → IsTableFileOf form order key rest rows text
table_file_is form columns keys by_cells rows text order key rest eo ek er plainly heads h =
    table_file_shown form columns rows text order key rest eo ek er heads
    (subst (λ shown. IsFileIn form (heading form None columns ++ table_rows columns.order.items shown) text) (came_out keys by_cells AlikeRows rows h.0 plainly h.1) h.2)

pub table_text_is : (form : Form) (columns : Columns) (keys : Option (List (List (List ℕ)))) (by_cells : Bool) (rows : TableRows) (text : List ℕ)
    (order : List Place) (key rest : List (List ℕ)) → columns.order.items ≡ order → columns.key ≡ key → columns.rest ≡ rest
    → (keys ≡ None) × (by_cells ≡ true) → HeadsPlainly form columns → IsTableText form columns keys by_cells rows text → text ≡ table_text form order key rest rows
table_text_is form columns keys by_cells rows text order key rest eo ek er plainly heads h =
    table_text_shown form columns rows text order key rest eo ek er heads
    (h.2 ∙ ap (λ l. file_text form (heading form None columns ++ table_rows columns.order.items l)) (came_out keys by_cells AlikeRows rows h.0 plainly h.1))
