-- Rows that are spelled one by one read back as they are.
use Rattle.std.proofs.Common.{◌≡◌, ◌==◌, ◌∙◌, ℕ, List, [], ◌∷◌, ◌++◌, Some, None, true, false, refl, sym, ap, subst, append_assoc, inl, inr, suc}
use Rattle.std.specs.Prelude.{◌⊎◌, ◌||◌, ◌-◌, All, Bool, Option, drop, if◌then◌else◌, length, map, take}
use Rattle.std.specs.List.{flat_map, list_any}
use Rattle.std.proofs.lemmas.Bool.{cases_Bool, eq-eqb, ne_eqb}
use Rattle.std.proofs.lemmas.Grind.{flat_map-append}
use Rattle.std.proofs.lemmas.List.{append-nil, map-append, take-append-drop}
use Rattle.std.proofs.lemmas.List.Elements.{All-cons, All-head, All-nil, All-tail}
use Rattle.csv.specs.Machine.{is_byte, next_record}
use Rattle.csv.specs.Reading.{AreRecords, Reached, strip_bom}
use Rattle.csv.specs.Writing.{by_style, default_writer, end_text, escaped, needs_quotes, quoted, read_back}
use Rattle.csv.specs.declared.parser.State.{State}
use Rattle.csv.specs.declared.parser.State.TheVariants as st
use Rattle.keyed_text.proofs.RoundTrip.{behind-end, behind-run, blank-run, empty-field, end-field, end-head, end-run, field-run, first-plain, first-quoted, head-end, head-unquoted, open-blank, open-field, open-one, read-of, unquoted}
use Rattle.keyed_text.proofs.TextLemmas.{less-end, m10, m13, no-comment-parts, no-comment-quotes, none-there, records-alike, same-back, strip-beginning}
use Rattle.keyed_text.specs.Laws.{HasCells}
use Rattle.keyed_text.specs.Spelling.{blank_lines, body_as, cell_as, cell_style, cells_as, first_quoted, row_as, row_end, rows_as, rows_spelled, shown_body, text_as}
use Rattle.keyed_text.specs.Texts.{AreRows, BeginsComments, PartsCells, config_by, ended, finished, quote_style, terminator_of, writer_by, writer_in}
use Rattle.keyed_text.specs.declared.spelling.RowSpelling.{RowSpelling}
use Rattle.keyed_text.specs.declared.style.LineEnd.{LineEnd}
use Rattle.keyed_text.specs.declared.style.LineEnd.TheVariants.{CrLf, Lf}
use Rattle.keyed_text.specs.declared.style.Style.{Style}

not-empty : (a b : List ℕ) (z : ℕ) → (length (a ++ (z ∷ b)) == 0) ≡ false
not-empty [] b z = ne_eqb (suc (length b)) 0 (λ e. cc e)
not-empty (x ∷ a) b z = ne_eqb (suc (length (a ++ (z ∷ b)))) 0 (λ e. cc e)

-- a beginning of a text that begins with no mark
strip-taken : (text : List ℕ) (n : ℕ) → strip_bom text ≡ text → strip_bom (take n text) ≡ take n text
strip-taken text n plain =
    let whole : take n text ++ drop n text ≡ text = take-append-drop n text in
    strip-beginning (take n text) (drop n text) (ap strip_bom whole ∙ plain ∙ sym whole)

abbrev SpelledRow : Type 0
SpelledRow = RowSpelling × List (List ℕ)

module _ (d : ℕ) (m : Option ℕ) (parts : PartsCells d) (begins : BeginsComments d m) where
  k34 : is_byte m 34 ≡ false
  k34 = no-comment-quotes d m begins

  kd : is_byte m d ≡ false
  kd = no-comment-parts d m begins

  ten : (10 == d) ≡ false
  ten = m10 (cell_style true) d m parts begins

  thirteen : (13 == d) ≡ false
  thirteen = m13 (cell_style true) d m parts begins

  abbrev cell : Bool → List ℕ → List ℕ
  cell q x = cell_as d m q x

  abbrev record-from : State → List (List ℕ) → List ℕ → List ℕ → Option (List (List ℕ) × State × List ℕ)
  record-from from fields field text = next_record (config_by d m) from fields field text

  -- a cell with what comes after it, which starts with no quote
  cell-run : (q : Bool) (fields : List (List ℕ)) (x : List ℕ) (c : ℕ) (tail : List ℕ) → (c == 34) ≡ false
      → record-from st.StartField fields [] (cell q x ++ (c ∷ tail)) ≡ record-from st.InField fields x (c ∷ tail)
  cell-run q fields x c tail n =
      field-run (cell_style q) d m (eq-eqb d d refl) parts.0 parts.1 parts.2 ten thirteen k34 kd fields x c tail n

  field-end : (fields : List (List ℕ)) (x u : List ℕ) → record-from st.InField fields x (d ∷ u) ≡ record-from st.StartField (fields ++ (x ∷ [])) [] u
  field-end fields x u = end-field (cell_style true) d m (eq-eqb d d refl) parts.0 parts.1 parts.2 ten thirteen k34 kd fields x u

  record-end : (e : LineEnd) (fields : List (List ℕ)) (x tail : List ℕ)
      → record-from st.InField fields x (end_text (terminator_of e) ++ tail) ≡ Some (read-of e (fields ++ (x ∷ [])) tail)
  record-end e fields x tail = end-run (cell_style true) d m (eq-eqb d d refl) parts.0 parts.1 parts.2 ten thirteen k34 kd e fields x tail

  -- what comes after a cell starts with no quote
  abbrev head-of : LineEnd → List (List ℕ) → ℕ
  head-of e [] = head-end e
  head-of e (z ∷ zs) = d

  abbrev tail-of : LineEnd → List Bool → List (List ℕ) → List ℕ → List ℕ
  tail-of e quotes [] tail = behind-end e ++ tail
  tail-of e quotes (z ∷ zs) tail = (cell (first_quoted quotes) z ++ cells_as d m (drop 1 quotes) zs) ++ (end_text (terminator_of e) ++ tail)

  text-head : (e : LineEnd) (quotes : List Bool) (ys : List (List ℕ)) (tail : List ℕ)
      → cells_as d m quotes ys ++ (end_text (terminator_of e) ++ tail) ≡ head-of e ys ∷ tail-of e quotes ys tail
  unfolding cells_as
  text-head e quotes [] tail = end-head e tail
  text-head e quotes (z ∷ zs) tail = refl

  head-plain : (e : LineEnd) (ys : List (List ℕ)) → (head-of e ys == 34) ≡ false
  head-plain e [] = head-unquoted e
  head-plain e (z ∷ zs) = parts.0

  -- the rest of a row, after a cell
  rest-run : (e : LineEnd) (quotes : List Bool) (fields : List (List ℕ)) (x : List ℕ) (rest : List (List ℕ)) (tail : List ℕ)
      → record-from st.InField fields x (cells_as d m quotes rest ++ (end_text (terminator_of e) ++ tail)) ≡ Some (read-of e (fields ++ (x ∷ rest)) tail)
  unfolding cells_as
  rest-run e quotes fields x [] tail = record-end e fields x tail
  rest-run e quotes fields x (y ∷ ys) tail =
      let q = first_quoted quotes in
      let left = drop 1 quotes in
      let h = text-head e left ys tail in
      let u : (cell q y ++ cells_as d m left ys) ++ (end_text (terminator_of e) ++ tail) ≡ cell q y ++ (head-of e ys ∷ tail-of e left ys tail) =
      append_assoc (cell q y) (cells_as d m left ys) (end_text (terminator_of e) ++ tail) ∙ ap (λ (t : List ℕ). cell q y ++ t) h in
      let run = cell-run q (fields ++ (x ∷ [])) y (head-of e ys) (tail-of e left ys tail) (head-plain e ys) in
      let more = rest-run e left (fields ++ (x ∷ [])) y ys tail in
      let back = subst (λ (t : List ℕ). record-from st.InField (fields ++ (x ∷ [])) y t ≡ Some (read-of e ((fields ++ (x ∷ [])) ++ (y ∷ ys)) tail)) h more in
      rw (field-end fields x _, u) (run ∙ back ∙ rw (append_assoc fields (x ∷ []) (y ∷ ys)) refl)

  -- a row's text starts as a cell's does, where that shows a byte or what comes after it ends no row and begins no comment
  row-start : (q : Bool) (x : List ℕ) (c : ℕ) (tail : List ℕ)
      → ((length (cell q x) == 0) ≡ false) ⊎ (((c == 13) ≡ false) × ((c == 10) ≡ false) × (is_byte m c ≡ false))
      → record-from st.StartRecord [] [] (cell q x ++ (c ∷ tail)) ≡ record-from st.StartField [] [] (cell q x ++ (c ∷ tail))
  row-start q x c tail h =
      let s = cell_style q in
      elim (cases_Bool (by_style (quote_style s.quotes) (needs_quotes (writer_in s d m) x))) [
        | inl needs ↦ first-quoted s d m (eq-eqb d d refl) parts.0 parts.1 parts.2 ten thirteen k34 kd x c tail needs
        | inr plain ↦
            let none = unquoted s d m (eq-eqb d d refl) parts.0 parts.1 parts.2 ten thirteen k34 kd x plain in
            let bare : cell q x ≡ x = rw plain refl in
            rw bare (first-plain s d m (eq-eqb d d refl) parts.0 parts.1 parts.2 ten thirteen k34 kd x c tail none (rw bare at h))
      ]

  -- a row, given how its text starts
  row-run : (e : LineEnd) (quotes : List Bool) (x : List ℕ) (rest : List (List ℕ)) (tail : List ℕ)
      → ((length (cell (first_quoted quotes) x) == 0) ≡ false) ⊎ (((head-of e rest == 13) ≡ false) × ((head-of e rest == 10) ≡ false) × (is_byte m (head-of e rest) ≡ false))
      → record-from st.StartRecord [] [] (body_as d m quotes (x ∷ rest) ++ (end_text (terminator_of e) ++ tail)) ≡ Some (read-of e (x ∷ rest) tail)
  row-run e quotes x rest tail starts =
      let q = first_quoted quotes in
      let left = drop 1 quotes in
      let h = text-head e left rest tail in
      let u : body_as d m quotes (x ∷ rest) ++ (end_text (terminator_of e) ++ tail) ≡ cell q x ++ (head-of e rest ∷ tail-of e left rest tail) =
      append_assoc (cell q x) (cells_as d m left rest) (end_text (terminator_of e) ++ tail) ∙ ap (λ (t : List ℕ). cell q x ++ t) h in
      let first = row-start q x (head-of e rest) (tail-of e left rest tail) starts in
      let run = cell-run q [] x (head-of e rest) (tail-of e left rest tail) (head-plain e rest) in
      let more = rest-run e left [] x rest tail in
      let back = subst (λ (t : List ℕ). record-from st.InField [] x t ≡ Some (read-of e (x ∷ rest) tail)) h more in
      rw u (first ∙ run ∙ back)

  -- a row that shows no byte is written as two quotes
  shown-run : (e : LineEnd) (body : List ℕ) (tail : List ℕ) (fields : List (List ℕ)) → (length body == 0) ≡ false
      → record-from st.StartRecord [] [] (body ++ (end_text (terminator_of e) ++ tail)) ≡ Some (read-of e fields tail)
      → record-from st.StartRecord [] [] (shown_body body ++ (end_text (terminator_of e) ++ tail)) ≡ Some (read-of e fields tail)
  shown-run e body tail fields some h = rw some h

  blank-shown : (e : LineEnd) (body : List ℕ) (tail : List ℕ) → (length body == 0) ≡ true
      → record-from st.StartRecord [] [] (shown_body body ++ (end_text (terminator_of e) ++ tail)) ≡ Some (read-of e ([] ∷ []) tail)
  blank-shown e body tail none = rw none (blank-run (cell_style true) d m (eq-eqb d d refl) parts.0 parts.1 parts.2 ten thirteen k34 kd e tail)

  -- a cell that is written as nothing is empty
  empty-cell : (q : Bool) (x : List ℕ) → (length (cell q x) == 0) ≡ true → x ≡ []
  empty-cell q x none =
      empty-field (cell_style q) d m (eq-eqb d d refl) parts.0 parts.1 parts.2 ten thirteen k34 kd x none

  -- a row reads back
  pub row-back : (e : LineEnd) (quotes : List Bool) (row : List (List ℕ)) (tail : List ℕ)
      → record-from st.StartRecord [] [] (shown_body (body_as d m quotes row) ++ (end_text (terminator_of e) ++ tail)) ≡ Some (read-of e (read_back row) tail)
  unfolding cells_as
  row-back e quotes [] tail = blank-shown e [] tail refl
  row-back e quotes (x ∷ []) tail =
      let q = first_quoted quotes in
      let alone : cell q x ++ [] ≡ cell q x = append-nil (cell q x) in
      elim (cases_Bool (length (cell q x) == 0)) [
        | inl none ↦
            subst (λ (z : List ℕ). record-from st.StartRecord [] [] (shown_body (cell q x ++ []) ++ (end_text (terminator_of e) ++ tail)) ≡ Some (read-of e (z ∷ []) tail))
            (sym (empty-cell q x none)) (blank-shown e (cell q x ++ []) tail (ap (λ t. length t == 0) alone ∙ none))
        | inr some ↦ shown-run e (cell q x ++ []) tail (x ∷ []) (ap (λ t. length t == 0) alone ∙ some) (row-run e quotes x [] tail (inl some))
      ]
  row-back e quotes (x ∷ y ∷ ys) tail =
      let q = first_quoted quotes in
      shown-run e (body_as d m quotes (x ∷ y ∷ ys)) tail (x ∷ y ∷ ys) (not-empty (cell q x) _ d)
      (row-run e quotes x (y ∷ ys) tail (inr (parts.1, parts.2, kd)))

  -- blank lines before a row are passed over
  end-passed : (e : LineEnd) (t : List ℕ) → record-from st.StartRecord [] [] (end_text (terminator_of e) ++ t) ≡ record-from st.StartRecord [] [] t
  unfolding next_record
  end-passed Lf t = refl
  end-passed CrLf t = refl

  pub blanks-passed : (ends : List LineEnd) (t : List ℕ) → record-from st.StartRecord [] [] (blank_lines ends ++ t) ≡ record-from st.StartRecord [] [] t
  blanks-passed [] t = refl
  blanks-passed (e ∷ ends) t =
      ap (record-from st.StartRecord [] []) (append_assoc (end_text (terminator_of e)) (blank_lines ends) t)
      ∙ end-passed e (blank_lines ends ++ t) ∙ blanks-passed ends t

  -- the last row of a text, which has no end
  cell-open : (q : Bool) (fields : List (List ℕ)) (x : List ℕ) → record-from st.StartField fields [] (cell q x) ≡ Some (fields ++ (x ∷ []), st.StartRecord, [])
  cell-open q fields x = open-field (cell_style q) d m (eq-eqb d d refl) parts.0 parts.1 parts.2 ten thirteen k34 kd fields x

  rest-open : (quotes : List Bool) (fields : List (List ℕ)) (x : List ℕ) (rest : List (List ℕ))
      → record-from st.InField fields x (cells_as d m quotes rest) ≡ Some (fields ++ (x ∷ rest), st.StartRecord, [])
  unfolding next_record cells_as
  rest-open quotes fields x [] = refl
  rest-open quotes fields x (y ∷ []) =
      let q = first_quoted quotes in
      rw (field-end fields x (cell q y ++ []), append-nil (cell q y))
      (cell-open q (fields ++ (x ∷ [])) y ∙ rw (append_assoc fields (x ∷ []) (y ∷ [])) refl)
  rest-open quotes fields x (y ∷ z ∷ zs) =
      let q = first_quoted quotes in
      let left = drop 1 quotes in
      let run = cell-run q (fields ++ (x ∷ [])) y d (cell (first_quoted left) z ++ cells_as d m (drop 1 left) zs) parts.0 in
      let more = rest-open left (fields ++ (x ∷ [])) y (z ∷ zs) in
      rw (field-end fields x (cell q y ++ cells_as d m left (z ∷ zs))) (run ∙ more ∙ rw (append_assoc fields (x ∷ []) (y ∷ z ∷ zs)) refl)

  abbrev Opens : List ℕ → List (List ℕ) → Type 0
  Opens text fields = record-from st.StartRecord [] [] text ≡ Some (fields, st.StartRecord, [])

  shown-open : (body : List ℕ) (fields : List (List ℕ)) → (length body == 0) ≡ false → Opens body fields → Opens (shown_body body) fields
  shown-open body fields some h = rw some h

  blank-open : (body : List ℕ) → (length body == 0) ≡ true → Opens (shown_body body) ([] ∷ [])
  blank-open body none = rw none (open-blank (cell_style true) d m (eq-eqb d d refl) parts.0 parts.1 parts.2 ten thirteen k34 kd)

  pub row-open : (quotes : List Bool) (row : List (List ℕ)) → Opens (shown_body (body_as d m quotes row)) (read_back row)
  unfolding cells_as
  row-open quotes [] = blank-open [] refl
  row-open quotes (x ∷ []) =
      let q = first_quoted quotes in
      let alone : cell q x ++ [] ≡ cell q x = append-nil (cell q x) in
      elim (cases_Bool (length (cell q x) == 0)) [
        | inl none ↦
            subst (λ (z : List ℕ). Opens (shown_body (cell q x ++ [])) (z ∷ [])) (sym (empty-cell q x none))
            (blank-open (cell q x ++ []) (ap (λ t. length t == 0) alone ∙ none))
        | inr some ↦
            shown-open (cell q x ++ []) (x ∷ []) (ap (λ t. length t == 0) alone ∙ some)
            (ap (record-from st.StartRecord [] []) alone ∙ open-one (cell_style q) d m (eq-eqb d d refl) parts.0 parts.1 parts.2 ten thirteen k34 kd x some)
      ]
  row-open quotes (x ∷ y ∷ ys) =
      let q = first_quoted quotes in
      let left = drop 1 quotes in
      let more = cell (first_quoted left) y ++ cells_as d m (drop 1 left) ys in
      shown-open (body_as d m quotes (x ∷ y ∷ ys)) (x ∷ y ∷ ys) (not-empty (cell q x) _ d)
      (row-start q x d more (inr (parts.1, parts.2, kd)) ∙ cell-run q [] x d more parts.0 ∙ rest-open left [] x (y ∷ ys))

  module _ (s : Style) where
    -- rows are read from a state of a text, and others after them, where this reads as their text with that of the others after it
    rows-from : (rows : List SpelledRow) (more : List (List (List ℕ))) (tail : List ℕ) (from : State) (text : List ℕ)
        → record-from from [] [] text ≡ record-from st.StartRecord [] [] (rows_as s d m rows ++ tail)
        → AreRecords (config_by d m) st.StartRecord tail more → All HasCells (rows_spelled rows)
        → AreRecords (config_by d m) from text (rows_spelled rows ++ more)
    unfolding Reached
    rows-from [] more tail from text same are h = records-alike s d m parts begins from text tail more same are
    rows-from (row ∷ rows) more tail from text same are h =
        let e = row_end s row.0 in
        let body = shown_body (body_as d m row.0.quotes.items row.1) in
        let left = rows_as s d m rows ++ tail in
        let after = read-of e (read_back row.1) left in
        let rest = rows-from rows more tail after.1 after.2 (behind-run (config_by d m) e left) are (All-tail HasCells row.1 (rows_spelled rows) h) in
        let whole : rows_as s d m (row ∷ rows) ++ tail ≡ blank_lines row.0.before.items ++ (body ++ (end_text (terminator_of e) ++ left)) =
        append_assoc (row_as s d m row.0 row.1) (rows_as s d m rows) tail
        ∙ append_assoc (blank_lines row.0.before.items) (body ++ end_text (terminator_of e)) left
        ∙ ap (λ t. blank_lines row.0.before.items ++ t) (append_assoc body (end_text (terminator_of e)) left) in
        let first = same ∙ ap (record-from st.StartRecord [] []) whole ∙ blanks-passed row.0.before.items _ ∙ row-back e row.0.quotes.items row.1 left in
        (rest.0, rest.1, (after, first, same-back row.1 (All-head HasCells row.1 (rows_spelled rows) h), rest.2), rest.3)

    -- blank lines have no row
    blank-text : (ends : List LineEnd) → AreRecords (config_by d m) st.StartRecord (blank_lines ends) []
    blank-text ends =
        records-alike s d m parts begins st.StartRecord (blank_lines ends) [] []
        (ap (record-from st.StartRecord [] []) (sym (append-nil (blank_lines ends))) ∙ blanks-passed ends []) (none-there s d m parts begins)

    -- all rows but the last one, and that one
    last-spelled : (row : SpelledRow) (rows : List SpelledRow) → All HasCells (rows_spelled (row ∷ rows))
        → (init : List SpelledRow) × (last : SpelledRow) × (row ∷ rows ≡ init ++ (last ∷ [])) × All HasCells (rows_spelled init) × HasCells last.1
    last-spelled row [] h = ([], row, refl, All-nil HasCells, All-head HasCells row.1 [] h)
    last-spelled row (next ∷ rows) h =
        let l = last-spelled next rows (All-tail HasCells row.1 (rows_spelled (next ∷ rows)) h) in (
          row ∷ l.0,
          l.1,
          ap (λ rest. row ∷ rest) l.2,
          All-cons HasCells row.1 (rows_spelled l.0) (All-head HasCells row.1 (rows_spelled (next ∷ rows)) h) l.3,
          l.4,
        )

    -- the last row without its end
    abbrev open-row : SpelledRow → List ℕ
    open-row row = blank_lines row.0.before.items ++ shown_body (body_as d m row.0.quotes.items row.1)

    text-last : (init : List SpelledRow) (last : SpelledRow)
        → rows_as s d m (init ++ (last ∷ [])) ≡ (rows_as s d m init ++ open-row last) ++ end_text (terminator_of (row_end s last.0))
    text-last init last =
        let before = blank_lines last.0.before.items in
        let body = shown_body (body_as d m last.0.quotes.items last.1) in
        let end = end_text (terminator_of (row_end s last.0)) in
        flat_map-append (λ row. row_as s d m row.0 row.1) init (last ∷ [])
        ∙ ap (λ t. rows_as s d m init ++ t) (append-nil (row_as s d m last.0 last.1) ∙ sym (append_assoc before body end))
        ∙ sym (append_assoc (rows_as s d m init) (before ++ body) end)

    open-last : (last : SpelledRow) → HasCells last.1 → AreRecords (config_by d m) st.StartRecord (open-row last) (last.1 ∷ [])
    unfolding Reached next_record
    open-last last has =
        let opened = blanks-passed last.0.before.items (shown_body (body_as d m last.0.quotes.items last.1)) ∙ row-open last.0.quotes.items last.1 in
        (st.StartRecord, [], ((read_back last.1, st.StartRecord, []), opened, same-back last.1 has, (refl, refl)), refl)

    -- a text of rows less the end of the last one
    abbrev cut-of : List ℕ → List ℕ
    cut-of text = take (length text - length (end_text (terminator_of s.line_end))) text

    cut-back : (row : SpelledRow) (rows : List SpelledRow) → s.has_end ≡ false → All HasCells (rows_spelled (row ∷ rows))
        → AreRecords (config_by d m) st.StartRecord (cut-of (rows_as s d m (row ∷ rows))) (rows_spelled (row ∷ rows))
    cut-back row rows lacks h =
        let l = last-spelled row rows h in
        let ends : row_end s l.1.0 ≡ s.line_end = rw lacks refl in
        let whole : rows_as s d m (row ∷ rows) ≡ (rows_as s d m l.0 ++ open-row l.1) ++ end_text (terminator_of s.line_end) =
        ap (rows_as s d m) l.2 ∙ text-last l.0 l.1 ∙ ap (λ e. (rows_as s d m l.0 ++ open-row l.1) ++ end_text (terminator_of e)) ends in
        let cut : cut-of (rows_as s d m (row ∷ rows)) ≡ rows_as s d m l.0 ++ open-row l.1 =
        ap cut-of whole ∙ less-end (rows_as s d m l.0 ++ open-row l.1) (end_text (terminator_of s.line_end)) in
        let all : rows_spelled (row ∷ rows) ≡ rows_spelled l.0 ++ (l.1.1 ∷ []) = ap rows_spelled l.2 ∙ map-append (λ r. r.1) l.0 (l.1 ∷ []) in
        let read = rows-from l.0 (l.1.1 ∷ []) (open-row l.1) st.StartRecord (rows_as s d m l.0 ++ open-row l.1) refl (open-last l.1 l.4) l.3 in
        subst (λ t. AreRecords (config_by d m) st.StartRecord t (rows_spelled (row ∷ rows))) (sym cut)
        (subst (λ rs. AreRecords (config_by d m) st.StartRecord (rows_as s d m l.0 ++ open-row l.1) rs) (sym all) read)

    ends-whole : (text : List ℕ) → s.has_end ≡ true → ended s text ≡ text
    ends-whole text has = rw has refl

    ends-cut : (text : List ℕ) → s.has_end ≡ false → ended s text ≡ cut-of text
    ends-cut text lacks = rw lacks refl

    -- the text of rows reads as them from the start of a record, with an end of the last row or without
    ended-back : (row : SpelledRow) (rows : List SpelledRow) (after : List LineEnd) → All HasCells (rows_spelled (row ∷ rows))
        → AreRecords (config_by d m) st.StartRecord (ended s (text_as s d m (row ∷ rows) after)) (rows_spelled (row ∷ rows))
    ended-back row rows after h =
        let all = text_as s d m (row ∷ rows) after in
        let these = rows_as s d m (row ∷ rows) in
        let P : List ℕ → Type 0 = λ text. AreRecords (config_by d m) st.StartRecord text (rows_spelled (row ∷ rows)) in
        let more : List ℕ → List ℕ = λ text. these ++ text in
        elim (cases_Bool s.has_end) [
          | inl has ↦
              let whole : ended s all ≡ these ++ blank_lines after = ends-whole all has ∙ ap (λ b. more (if b then blank_lines after else [])) has in
              let read = rows-from (row ∷ rows) [] (blank_lines after) st.StartRecord (these ++ blank_lines after) refl (blank-text after) h in
              subst P (sym whole) (subst (λ rs. AreRecords (config_by d m) st.StartRecord (these ++ blank_lines after) rs) (append-nil (rows_spelled (row ∷ rows))) read)
          | inr lacks ↦
              let whole : ended s all ≡ cut-of these =
              ends-cut all lacks ∙ ap cut-of (ap (λ b. more (if b then blank_lines after else [])) lacks ∙ append-nil these) in
              subst P (sym whole) (cut-back row rows lacks h)
        ]

    ended-plain : (text : List ℕ) → strip_bom text ≡ text → strip_bom (ended s text) ≡ ended s text
    ended-plain text plain = elim (cases_Bool s.has_end) [
      | inl has ↦ rw has plain
      | inr lacks ↦ rw lacks (strip-taken text (length text - length (end_text (terminator_of s.line_end))) plain)
    ]

    -- the file of rows, each in its spelling, reads back as them, where their text begins with no byte order mark
    pub spelled-back : (row : SpelledRow) (rows : List SpelledRow) (after : List LineEnd) → All HasCells (rows_spelled (row ∷ rows))
        → strip_bom (text_as s d m (row ∷ rows) after) ≡ text_as s d m (row ∷ rows) after
        → AreRows d m (finished s (text_as s d m (row ∷ rows) after)) (rows_spelled (row ∷ rows))
    unfolding strip_bom
    spelled-back row rows after h plain = elim (cases_Bool s.has_mark) [
      | inl has ↦ rw has (ended-back row rows after h)
      | inr lacks ↦ rw (lacks, ended-plain (text_as s d m (row ∷ rows) after) plain) (ended-back row rows after h)
    ]

-- the bytes between the quotes of a cell, one after the other
pub escaped-more : (text : List ℕ) (b : ℕ) (rest : List ℕ)
    → (text ++ escaped default_writer (b ∷ [])) ++ escaped default_writer rest ≡ text ++ escaped default_writer (b ∷ rest)
unfolding escaped
escaped-more text b rest = elim (cases_Bool (b == 34)) [
  | inl quote ↦ rw quote (append_assoc text (34 ∷ b ∷ []) (escaped default_writer rest))
  | inr other ↦ rw other (append_assoc text (b ∷ []) (escaped default_writer rest))
]

pub escaped-none : (text : List ℕ) → text ++ escaped default_writer [] ≡ text
unfolding escaped
escaped-none text = append-nil text

-- whatever quotes it, a cell has the same bytes between its quotes
pub escaped-by : (q : Bool) (d : ℕ) (c : Option ℕ) (cell : List ℕ) → escaped (writer_in (cell_style q) d c) cell ≡ escaped default_writer cell
unfolding escaped
escaped-by q d c [] = refl
escaped-by q d c (b ∷ cell) = rw (escaped-by q d c cell) refl

pub escaped_quote : escaped default_writer (34 ∷ []) ≡ 34 ∷ 34 ∷ []
unfolding escaped
escaped_quote = refl

pub escaped_plain : (b : ℕ) → (b == 34) ≡ false → escaped default_writer (b ∷ []) ≡ b ∷ []
unfolding escaped
escaped_plain b other = rw other refl

-- a cell in quotes, and one that is written as it is
pub quoted_cell : (q : Bool) (d : ℕ) (c : Option ℕ) (cell : List ℕ) → (q || needs_quotes (writer_by d c) cell) ≡ true → cell_as d c q cell ≡ quoted default_writer cell
quoted_cell true d c cell is = ap (λ l. 34 ∷ (l ++ (34 ∷ []))) (escaped-by true d c cell)
quoted_cell false d c cell is = rw is (ap (λ l. 34 ∷ (l ++ (34 ∷ []))) (escaped-by false d c cell))

pub bare_cell : (q : Bool) (d : ℕ) (c : Option ℕ) (cell : List ℕ) → (q || needs_quotes (writer_by d c) cell) ≡ false → cell_as d c q cell ≡ cell
bare_cell true d c cell is = cc is
bare_cell false d c cell is = rw is refl
