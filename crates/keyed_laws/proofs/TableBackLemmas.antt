-- The text of a table, read as a table again.
use Rattle.std.proofs.Common.{◌≡◌, ◌≢◌, ◌∙◌, ◌+◌, ℕ, Bool, true, false, List, [], ◌∷◌, ◌++◌, All, None, Option, Some, arith, eqb-true, get_or, inl, inr, length, map, nat_eq, ne_eqb, refl, sym, ap, ap₂, subst, true≢false}
use Rattle.std.specs.Prelude.{◌==◌, ◌&&◌, ◌||◌, not, option_map, if◌then◌else◌}
use Rattle.std.specs.Cmp.Lexicographic.{bytes_decides, pointwise}
use Rattle.std.proofs.lemmas.List.{get_or-map, map-append}
use Rattle.std.proofs.lemmas.List.Elements.{All-append, All-cons, All-head, All-nil, All-tail}
use Rattle.std.proofs.lemmas.List.Quantifiers.{position-Some}
use Rattle.csv.specs.Reading.{is_bom, strip_bom}
use Rattle.keyed_faults.specs.Encodings.{begins, is_marked}
use Rattle.keyed_requests.specs.AnswerForm.{writes_heading}
use Rattle.keyed_requests.specs.FormBytes.{comment_of, delimiter_of}
use Rattle.keyed_requests.specs.declared.request.Form.{Form}
use Rattle.keyed_columns.specs.ColumnNames.{WriteNames}
use Rattle.keyed_columns.specs.Names.{place_in, repeats}
use Rattle.keyed_columns.specs.CellsUnder.{cell_at, cell_under, row_under}
use Rattle.keyed_columns.specs.Placed.{names_headed, names_placed, placed}
use Rattle.keyed_columns.specs.declared.columns.Columns.{Columns}
use Rattle.keyed_columns.specs.declared.columns.Place.{Place}
use Rattle.keyed_columns.specs.declared.content.Content.TheVariants.{Rows}
use Rattle.keyed_columns.proofs.LawLemmas.{writes-names}
use Rattle.keyed_files.specs.Reading.{behind_header, parts_of}
use Rattle.keyed_files.specs.Rows.{heading, names_row, rows_under, table_rows}
use Rattle.keyed_files.specs.SpelledFiles.{IsFileIn, IsUnmarked, SpelledRows}
use Rattle.keyed_files.specs.Writing.{quoted, quoted_first, text_of}
use Rattle.keyed_tables.specs.Gathered.{HoldsRows}
use Rattle.keyed_text.specs.Laws.{HasCells}
use Rattle.keyed_text.specs.Texts.{AreRows, BeginsComments, PartsCells, finished}
use Rattle.keyed_text.specs.declared.style.Style.{Style}
use Rattle.keyed_text.specs.Spelling.{rows_spelled, text_as}
use Rattle.keyed_text.specs.declared.style.LineEnd.{LineEnd}
use Rattle.keyed_text.proofs.SpellingLemmas.{spelled-back}
use Rattle.keyed_text.proofs.TextLemmas.{file-back, rows-once}
use Rattle.keyed_jobs.specs.Answers.{IsTableFile, TableRows, key_cmp}
use Rattle.keyed_jobs.specs.TablesRead.{SaysTable}
use Rattle.keyed_jobs.proofs.AnswerLemmas.{key_exact, key_total}
use Rattle.keyed_commands.proofs.GatheredLemmas.{climbing, flat, holds-flat, one-table}
use Rattle.keyed_laws.specs.TextLaws.{SaysOnly, table_text_rows}
use Rattle.keyed_laws.proofs.ColumnsBackLemmas.{Within, field_is, lacks, map_agree, same_name}
use Rattle.keyed_laws.proofs.LawLemmas.{has-header}
use Rattle.keyed_laws.proofs.TextLawLemmas.{IsRow, groups-are, groups-climb, groups-full, table-rises}

-- a text that begins with no mark begins with no byte order mark
both_true : (a b : Bool) → (a && b) ≡ true → (a ≡ true) × (b ≡ true)
both_true true b e = (refl, e)
both_true false b e = absurd (true≢false (sym e))

first_false : (a b : Bool) → (a || b) ≡ false → a ≡ false
first_false true b e = e
first_false false b e = refl

is_mark_of : (a b c : ℕ) → is_bom a b c ≡ true → (239 ∷ 187 ∷ 191 ∷ []) ≡ (a ∷ b ∷ c ∷ [])
is_mark_of a b c e =
    let both = both_true ((a == 239) && (b == 187)) (c == 191) e in
    let first = both_true (a == 239) (b == 187) both.0 in
    sym (ap₂ (λ x l. x ∷ l) (eqb-true a 239 first.0) (ap₂ (λ y z. y ∷ z ∷ []) (eqb-true b 187 first.1) (eqb-true c 191 both.1)))

plain_if : (a b c : ℕ) (rest : List ℕ) (x : Bool) → is_bom a b c ≡ x → begins (a ∷ b ∷ c ∷ rest) (239 ∷ 187 ∷ 191 ∷ []) ≡ false
    → (if x then rest else a ∷ b ∷ c ∷ rest) ≡ a ∷ b ∷ c ∷ rest
plain_if a b c rest true e h = absurd (true≢false (sym ((bytes_decides (239 ∷ 187 ∷ 191 ∷ []) (a ∷ b ∷ c ∷ [])).1 (is_mark_of a b c e)) ∙ h))
plain_if a b c rest false e h = refl

plain_text : (text : List ℕ) → is_marked text ≡ false → strip_bom text ≡ text
unfolding strip_bom
plain_text [] h = refl
plain_text (a ∷ []) h = refl
plain_text (a ∷ b ∷ []) h = refl
plain_text (a ∷ b ∷ c ∷ rest) h = plain_if a b c rest (is_bom a b c) refl (first_false _ _ h)

-- the rows of a table have cells
placed_none : (key rest : List (List ℕ)) → placed [] key rest ≡ []
unfolding placed
placed_none key rest = refl

placed_some : (order : List Place) (key rest : List (List ℕ)) → order ≢ [] → placed order key rest ≢ []
unfolding placed
placed_some [] key rest some = absurd (some refl)
placed_some (place ∷ order) key rest some = λ e. cc

length_some : {X : Type 0} (xs : List X) → xs ≢ [] → (length xs == 0) ≡ false
length_some [] some = absurd (some refl)
length_some (x ∷ xs) some = ne_eqb (length (x ∷ xs)) 0 (λ e. omega (arith, e))

rows_full : (order : List Place) (key : List (List ℕ)) (rows : List (List (List ℕ))) → order ≢ [] → All HasCells (rows_under None order key rows)
rows_full order key [] some = All-nil HasCells
rows_full order key (row ∷ rows) some =
    All-cons HasCells (placed order key row) (rows_under None order key rows) (placed_some order key row some) (rows_full order key rows some)

table_full : (order : List Place) (table : TableRows) → order ≢ [] → All HasCells (table_rows order table)
table_full order [] some = All-nil HasCells
table_full order (g ∷ table) some =
    All-append HasCells (rows_under None order g.0 g.1) (table_rows order table) (rows_full order g.0 g.1 some) (table_full order table some)

-- a cell that is written under a name and read again
cell_by : (all : List (List ℕ)) (f : List ℕ → List ℕ) (name : List ℕ) (at : Option ℕ) → place_in all name ≡ at → (at ≡ None → f name ≡ [])
    → cell_at (map f all) (option_map (λ place. place + 0) at) ≡ f name
cell_by all f name None e h = sym (h refl)
cell_by all f name (Some place) e h =
    let at = position-Some (pointwise nat_eq name) all place [] e in
    let same : place + 0 ≡ place = omega arith in
    field_is (map f all) (place + 0) ∙ ap (λ i. get_or (map f all) i []) same ∙ get_or-map f all place [] [] at.0
    ∙ ap f (sym (same_name name (get_or all place []) at.1))

module _ (names key written : List (List ℕ)) (headers : List (List (List ℕ))) (columns : Columns) (within : Within names written)
    (writes : WriteNames key written headers columns) (once : repeats [] written ≡ false) where
  abbrev order : List Place
  order = columns.order.items

  cell_again : (fields : List (List ℕ)) (name : List ℕ) → cell_under Rows written (map (cell_under Rows names fields) written) name ≡ cell_under Rows names fields name
  cell_again fields name =
      cell_by written (cell_under Rows names fields) name (place_in written name) refl
      (λ e. ap (λ place. cell_at fields (option_map (λ n. n + 0) place)) (lacks written names within name e))

  row_again : (group row : List (List ℕ)) → IsRow names columns group row → row_under Rows written columns (placed order group row) ≡ (group, row)
  row_again group row is =
      let f : List ℕ → List ℕ = cell_under Rows names is.0 in
      subst (λ (r : List (List ℕ) × List (List ℕ)). row_under Rows written columns (placed order r.0 r.1) ≡ r) (sym is.1)
      (ap (row_under Rows written columns) ((writes-names key written headers columns writes once).1 Rows names is.0)
      ∙ ap₂ (λ a b. (a, b)) (map_agree (cell_under Rows written (map f written)) f (cell_again is.0) columns.key)
      (map_agree (cell_under Rows written (map f written)) f (cell_again is.0) columns.rest))

  rows_again : (group : List (List ℕ)) (rows : List (List (List ℕ))) → All (IsRow names columns group) rows
      → map (row_under Rows written columns) (rows_under None order group rows) ≡ map (λ row. (group, row)) rows
  rows_again group [] h = refl
  rows_again group (row ∷ rows) h =
      ap₂ (λ r l. r ∷ l) (row_again group row (All-head (IsRow names columns group) row rows h)) (rows_again group rows (All-tail (IsRow names columns group) row rows h))

  table_again : (table : TableRows) → All (λ g. (g.1 ≢ []) × All (IsRow names columns g.0) g.1) table
      → map (row_under Rows written columns) (table_rows order table) ≡ flat table
  table_again [] h = refl
  table_again (g ∷ table) h =
      map-append (row_under Rows written columns) (rows_under None order g.0 g.1) (table_rows order table)
      ∙ ap₂ (λ a b. a ++ b) (rows_again g.0 g.1 (All-head (λ g. (g.1 ≢ []) × All (IsRow names columns g.0) g.1) g table h).1)
      (table_again table (All-tail (λ g. (g.1 ≢ []) × All (IsRow names columns g.0) g.1) g table h))

  -- what is written of a table that a text says is read as this table
  module _ (form from : Form) (groups : Bool) (text from_text : List ℕ) (header : List (List ℕ)) (table : TableRows) (has : writes_heading form ≡ true)
      (parts : PartsCells (delimiter_of form)) (begins_comments : BeginsComments (delimiter_of form) (comment_of form))
      (spells : names_headed columns ≡ names_placed columns) (says : SaysTable from Rows groups from_text header names columns table) (is : IsTableFile form columns None true table text) (some : written ≢ [])
      (unmarked : is_marked (text_of form (table_text_rows form columns table)) ≡ false)
      (each : IsUnmarked form (table_text_rows form columns table)) where
    header_is : placed order columns.key columns.rest ≡ written
    header_is = (writes-names key written headers columns writes once).0

    order_some : order ≢ []
    order_some = λ e. some (sym header_is ∙ ap (λ o. placed o columns.key columns.rest) e ∙ placed_none columns.key columns.rest)

    heading_is : heading form None columns ≡ written ∷ []
    heading_is =
        ap₂ (λ a b. if a && (false || not b) then names_row None columns ∷ [] else []) has (length_some order order_some)
        ∙ ap (λ names. names ∷ []) (spells ∙ header_is)

    rows_are : table_text_rows form columns table ≡ written ∷ table_rows order table
    rows_are = ap (λ l. l ++ table_rows order table) heading_is

    abbrev style : Style
    style = form.writing.style

    abbrev all : List (List (List ℕ))
    all = written ∷ table_rows order table

    file_is : IsFileIn form all text
    file_is =
        subst (λ rows. IsFileIn form rows text)
        (ap (λ shown. heading form None columns ++ table_rows order shown) (is.1.3 ∙ is.1.2) ∙ rows_are) is.2

    have_cells : All HasCells all
    have_cells = All-cons HasCells written (table_rows order table) some (table_full order table order_some)

    abbrev AreAll : List ℕ → Type 0
    AreAll bytes = AreRows (delimiter_of form) (comment_of form) bytes all

    none_marked : is_marked (text_of form all) ≡ false
    none_marked = ap (λ rows. is_marked (text_of form rows)) (sym rows_are) ∙ unmarked

    -- where the rows are written in the style of the form
    plain_rows : text ≡ finished style (quoted_first (delimiter_of form) (text_of form all)) → AreAll text
    plain_rows e =
        let bare : text ≡ finished style (text_of form all) =
        e ∙ ap (λ b. finished style (if b then quoted (delimiter_of form) (text_of form all) else text_of form all)) none_marked in
        subst AreAll (sym bare)
        (file-back style (delimiter_of form) (comment_of form) parts begins_comments written (table_rows order table) have_cells (plain_text (text_of form all) none_marked))

    -- and where each has a spelling of its own
    abbrev text_spelled : SpelledRows → List LineEnd → List ℕ
    text_spelled spelled after = text_as style (delimiter_of form) (comment_of form) spelled after

    each_rows : (spelled : SpelledRows) (after : List LineEnd) → rows_spelled spelled ≡ all
        → text ≡ finished style (quoted_first (delimiter_of form) (text_spelled spelled after)) → AreAll text
    each_rows [] after e t = absurd (cc e)
    each_rows (row ∷ rows) after e t =
        let bytes = text_spelled (row ∷ rows) after in
        let plainly : is_marked bytes ≡ false = each (row ∷ rows) after (e ∙ sym rows_are) in
        let bare : text ≡ finished style bytes = t ∙ ap (λ b. finished style (if b then quoted (delimiter_of form) bytes else bytes)) plainly in
        let back = spelled-back (delimiter_of form) (comment_of form) parts begins_comments style row rows after
        (subst (All HasCells) (sym e) have_cells) (plain_text bytes plainly) in
        subst AreAll (sym bare) (subst (λ rs. AreRows (delimiter_of form) (comment_of form) (finished style bytes) rs) e back)

    are_rows : AreAll text
    are_rows = elim file_is [
      | inl e ↦ plain_rows e
      | inr e ↦ each_rows e.0 e.1 e.2 e.3
    ]

    pub says-only : SaysOnly form groups text written columns table
    says-only other h =
        let same : h.1.0 ≡ written ∷ table_rows order table = rows-once (delimiter_of form) (comment_of form) text h.1.0 (written ∷ table_rows order table) h.1.1 are_rows in
        let rows : map parts_of h.0 ≡ flat table =
        h.1.3 ∙ ap₂ (λ b records. map (row_under Rows written columns) (behind_header b records)) (has-header form has) same ∙ table_again table (groups-are from groups from_text header names columns table says) in
        one-table key_cmp key_total key_exact key_cmp key_total key_exact (flat table) other table
        (subst (λ ps. HoldsRows key_cmp ps other) rows h.2.0)
        (holds-flat key_cmp key_total table (table-rises from groups from_text header names columns table says) (groups-full from groups from_text header names columns table says))
        (climbing key_cmp key_total key_exact key_cmp key_total key_exact groups other h.2.1)
        (groups-climb from groups from_text header names columns table says)
