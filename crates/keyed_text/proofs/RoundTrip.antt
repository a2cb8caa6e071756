-- What a writer in any style, with any byte between fields and any byte that begins comments, writes, a reader with the same bytes reads
-- back.
use Rattle.std.specs.Prelude.{◌⊎◌, length, Option}
use Rattle.keyed_text.specs.Texts.{config_by, open_row, quote_style, terminator_of, writer_in}
use Rattle.keyed_text.specs.declared.style.CellQuotes.{CellQuotes}
use Rattle.keyed_text.specs.declared.style.CellQuotes.TheVariants.{Everywhere, WhereNeeded}
use Rattle.keyed_text.specs.declared.style.LineEnd.{LineEnd}
use Rattle.keyed_text.specs.declared.style.LineEnd.TheVariants.{CrLf, Lf}
use Rattle.keyed_text.specs.declared.style.Style.{Style}
use Rattle.std.proofs.Common.{◌≡◌, ◌==◌, ◌++◌, ◌∷◌, ◌∙◌, [], ℕ, List, Bool, Some, refl, sym, ap, subst, true, false, append_assoc, inl, inr, suc}
use Rattle.std.specs.Prelude.{◌||◌}
use Rattle.std.specs.List.{list_any}
use Rattle.std.proofs.lemmas.List.{append-nil}
use Rattle.std.proofs.lemmas.Bool.{cases_Bool, eqb-true, ne_eqb}
use Rattle.csv.specs.Machine.{Read, is_byte, next_record}
use Rattle.csv.specs.Writing.{by_style, end_text, escaped, field_text, fields_text, is_blank, marks_line, needs_byte, needs_quotes, quoted, read_back, row_text}
use Rattle.csv.specs.declared.parser.Config.{Config}
use Rattle.csv.specs.declared.parser.State.{State}
use Rattle.csv.specs.declared.parser.State.TheVariants as st

or-left : (a b : Bool) → (a || b) ≡ false → a ≡ false
or-left false b e = refl
or-left true b e = cc e

or-right : (a b : Bool) → (a || b) ≡ false → b ≡ false
or-right false b e = e
or-right true b e = cc e

nothing : (xs : List ℕ) → (length xs == 0) ≡ true → xs ≡ []
nothing [] e = refl
nothing (x ∷ xs) e = cc (sym e ∙ ne_eqb (suc (length xs)) 0 (λ z. cc z))

not-true : (x : Bool) → (x ≡ true → ⊥) → x ≡ false
not-true true n = absurd (n refl)
not-true false n = refl

-- whatever ends a line, both its bytes call for quotes
line-marks : (e : LineEnd) (b : ℕ) → marks_line (terminator_of e) b ≡ ((b == 13) || (b == 10))
line-marks Lf b = refl
line-marks CrLf b = refl

-- a cell that is written without quotes needs none
needs-none : (q : CellQuotes) (needs : Bool) → by_style (quote_style q) needs ≡ false → needs ≡ false
needs-none WhereNeeded needs e = e
needs-none Everywhere needs e = cc e

-- the end of a row: its first byte, what stands after that, and the state of a reader between the two
abbrev pub head-end : LineEnd → ℕ
head-end Lf = 10
head-end CrLf = 13

abbrev pub behind-end : LineEnd → List ℕ
behind-end Lf = []
behind-end CrLf = 10 ∷ []

abbrev pub after-head : LineEnd → State
after-head Lf = st.StartRecord
after-head CrLf = st.AfterCr

pub end-head : (e : LineEnd) (tail : List ℕ) → end_text (terminator_of e) ++ tail ≡ head-end e ∷ (behind-end e ++ tail)
end-head Lf tail = refl
end-head CrLf tail = refl

pub head-unquoted : (e : LineEnd) → (head-end e == 34) ≡ false
head-unquoted Lf = refl
head-unquoted CrLf = refl

-- what a read of a record gives that ends so, after which this stands
abbrev pub read-of : LineEnd → List (List ℕ) → List ℕ → Read
read-of e fields tail = (fields, after-head e, behind-end e ++ tail)

-- after the end of a record a reader reads as at the start of one
pub behind-run : (cfg : Config) (e : LineEnd) (tail : List ℕ)
    → next_record cfg (after-head e) [] [] (behind-end e ++ tail) ≡ next_record cfg st.StartRecord [] [] tail
unfolding next_record
behind-run cfg Lf tail = refl
behind-run cfg CrLf tail = refl

module _ (s : Style) (d : ℕ) (m : Option ℕ) (same : (d == d) ≡ true) (n34 : (d == 34) ≡ false) (n13 : (d == 13) ≡ false) (n10 : (d == 10) ≡ false) (m10 : (10 == d) ≡ false) (m13 : (13 == d) ≡ false) (k34 : is_byte m 34 ≡ false) (kd : is_byte m d ≡ false) where
  -- whether a cell is written in quotes
  abbrev in-quotes : List ℕ → Bool
  in-quotes x = by_style (quote_style s.quotes) (needs_quotes (writer_in s d m) x)

  pub unquoted : (x : List ℕ) → in-quotes x ≡ false → list_any (needs_byte (writer_in s d m)) x ≡ false
  unquoted x e = needs-none s.quotes _ e

  -- a byte that calls for no quotes is no mark of the format
  plain-byte : (b : ℕ) → needs_byte (writer_in s d m) b ≡ false → ((b == d) ≡ false) × ((b == 34) ≡ false) × ((b == 13) ≡ false) × ((b == 10) ≡ false) × (is_byte m b ≡ false)
  plain-byte b f =
      let e = rw (line-marks s.line_end b) at f in
      let a = not-true (b == d) (λ t. cc (rw t at e)) in
      let q = not-true (b == 34) (λ t. cc (rw (a, t) at e)) in
      let r = not-true (b == 13) (λ t. cc (rw (a, q, t) at e)) in
      let n = not-true (b == 10) (λ t. cc (rw (a, q, r, t) at e)) in
      let k = not-true (is_byte m b) (λ t. cc (rw (a, q, r, n, t) at e)) in
      (a, q, r, n, k)

  -- the bytes of a field with no mark in them
  pub plain-run : (fields : List (List ℕ)) (field x tail : List ℕ) → list_any (needs_byte (writer_in s d m)) x ≡ false
      → next_record (config_by d m) st.InField fields field (x ++ tail) ≡ next_record (config_by d m) st.InField fields (field ++ x) tail
  unfolding next_record
  plain-run fields field [] tail e = rw (append-nil field) refl
  plain-run fields field (b ∷ rest) tail e =
      let q = plain-byte b (or-left _ _ e) in
      rw (q.0, q.2, q.3) (plain-run fields (field ++ (b ∷ [])) rest tail (or-right _ _ e)
      ∙ ap (λ (f : List ℕ). next_record (config_by d m) st.InField fields f tail) (append_assoc field (b ∷ []) rest))

  -- a byte that is no quote, between quotes
  quoted-plain : (fields : List (List ℕ)) (field : List ℕ) (b : ℕ) (tail : List ℕ) → (b == 34) ≡ false
      → next_record (config_by d m) st.InQuoted fields field (b ∷ tail) ≡ next_record (config_by d m) st.InQuoted fields (field ++ (b ∷ [])) tail
  unfolding next_record
  quoted-plain fields field b tail n = rw n refl

  escaped-plain : (b : ℕ) (rest : List ℕ) → (b == 34) ≡ false → escaped (writer_in s d m) (b ∷ rest) ≡ b ∷ escaped (writer_in s d m) rest
  unfolding escaped
  escaped-plain b rest n = rw n refl

  -- the bytes of a field between quotes, and the quote that ends them
  pub quoted-run : (fields : List (List ℕ)) (field x tail : List ℕ)
      → next_record (config_by d m) st.InQuoted fields field (escaped (writer_in s d m) x ++ (34 ∷ tail))
      ≡ next_record (config_by d m) st.AfterQuote fields (field ++ x) tail
  unfolding next_record escaped
  quoted-run fields field [] tail = rw (append-nil field) refl
  quoted-run fields field (b ∷ rest) tail = elim (cases_Bool (b == 34)) [
    | inl same ↦
        subst (λ (z : ℕ). next_record (config_by d m) st.InQuoted fields field (escaped (writer_in s d m) (z ∷ rest) ++ (34 ∷ tail))
        ≡ next_record (config_by d m) st.AfterQuote fields (field ++ (z ∷ rest)) tail) (sym (eqb-true b 34 same))
        (quoted-run fields (field ++ (34 ∷ [])) rest tail
        ∙ ap (λ (f : List ℕ). next_record (config_by d m) st.AfterQuote fields f tail) (append_assoc field (34 ∷ []) rest))
    | inr other ↦
        rw (escaped-plain b rest other) (quoted-plain fields field b _ other
        ∙ quoted-run fields (field ++ (b ∷ [])) rest tail
        ∙ ap (λ (f : List ℕ). next_record (config_by d m) st.AfterQuote fields f tail) (append_assoc field (b ∷ []) rest))
  ]

  -- a byte that is no quote does the same after a quote, at the start of a field and in one
  pub after-quote-same : (fields : List (List ℕ)) (field : List ℕ) (c : ℕ) (tail : List ℕ) → (c == 34) ≡ false
      → next_record (config_by d m) st.AfterQuote fields field (c ∷ tail) ≡ next_record (config_by d m) st.InField fields field (c ∷ tail)
  unfolding next_record
  after-quote-same fields field c tail n = rw n refl

  pub start-same : (fields : List (List ℕ)) (field : List ℕ) (c : ℕ) (tail : List ℕ) → (c == 34) ≡ false
      → next_record (config_by d m) st.StartField fields field (c ∷ tail) ≡ next_record (config_by d m) st.InField fields field (c ∷ tail)
  unfolding next_record
  start-same fields field c tail n = rw n refl

  -- a byte that ends no record starts one as it starts a field
  pub record-same : (fields : List (List ℕ)) (field : List ℕ) (c : ℕ) (tail : List ℕ) → (c == 13) ≡ false → (c == 10) ≡ false → is_byte m c ≡ false
      → next_record (config_by d m) st.StartRecord fields field (c ∷ tail) ≡ next_record (config_by d m) st.StartField fields field (c ∷ tail)
  unfolding next_record
  record-same fields field c tail r n k = rw (r, n, k) refl

  -- a field with no mark in it, from its start
  plain-start : (fields : List (List ℕ)) (x : List ℕ) (c : ℕ) (tail : List ℕ) → (c == 34) ≡ false → list_any (needs_byte (writer_in s d m)) x ≡ false
      → next_record (config_by d m) st.StartField fields [] (x ++ (c ∷ tail)) ≡ next_record (config_by d m) st.InField fields x (c ∷ tail)
  plain-start fields [] c tail n p = start-same fields [] c tail n
  plain-start fields (b ∷ rest) c tail n p =
      let q = plain-byte b (or-left _ _ p) in
      start-same fields [] b (rest ++ (c ∷ tail)) q.1 ∙ plain-run fields [] (b ∷ rest) (c ∷ tail) p

  -- a field with what comes after it, which starts with no quote
  pub field-run : (fields : List (List ℕ)) (x : List ℕ) (c : ℕ) (tail : List ℕ) → (c == 34) ≡ false
      → next_record (config_by d m) st.StartField fields [] (field_text (writer_in s d m) x ++ (c ∷ tail))
      ≡ next_record (config_by d m) st.InField fields x (c ∷ tail)
  unfolding next_record
  field-run fields x c tail n = elim (cases_Bool (in-quotes x)) [
    | inl needs ↦
        let text : field_text (writer_in s d m) x ++ (c ∷ tail) ≡ 34 ∷ (escaped (writer_in s d m) x ++ (34 ∷ c ∷ tail)) =
        rw needs (ap (λ (t : List ℕ). 34 ∷ t) (append_assoc (escaped (writer_in s d m) x) (34 ∷ []) (c ∷ tail))) in
        rw text (quoted-run fields [] x (c ∷ tail) ∙ after-quote-same fields x c tail n)
    | inr plain ↦
        let text : field_text (writer_in s d m) x ≡ x = rw plain refl in
        rw text (plain-start fields x c tail n (unquoted x plain))
  ]

  -- the byte between cells ends the field
  pub end-field : (fields : List (List ℕ)) (x u : List ℕ)
      → next_record (config_by d m) st.InField fields x (d ∷ u) ≡ next_record (config_by d m) st.StartField (fields ++ (x ∷ [])) [] u
  unfolding next_record
  end-field fields x u = rw same refl

  -- what comes after a field starts with no quote
  abbrev head-of : List (List ℕ) → ℕ
  head-of [] = head-end s.line_end
  head-of (z ∷ zs) = d

  abbrev tail-of : List (List ℕ) → List ℕ → List ℕ
  tail-of [] tail = behind-end s.line_end ++ tail
  tail-of (z ∷ zs) tail = (field_text (writer_in s d m) z ++ fields_text (writer_in s d m) zs) ++ (end_text (terminator_of s.line_end) ++ tail)

  text-head : (ys : List (List ℕ)) (tail : List ℕ) → fields_text (writer_in s d m) ys ++ (end_text (terminator_of s.line_end) ++ tail) ≡ head-of ys ∷ tail-of ys tail
  unfolding fields_text
  text-head [] tail = end-head s.line_end tail
  text-head (z ∷ zs) tail = refl

  head-plain : (ys : List (List ℕ)) → (head-of ys == 34) ≡ false
  head-plain [] = head-unquoted s.line_end
  head-plain (z ∷ zs) = n34

  -- the end of a record, after a field
  pub end-run : (e : LineEnd) (fields : List (List ℕ)) (x tail : List ℕ)
      → next_record (config_by d m) st.InField fields x (end_text (terminator_of e) ++ tail) ≡ Some (fields ++ (x ∷ []), after-head e, behind-end e ++ tail)
  unfolding next_record
  end-run Lf fields x tail = rw m10 refl
  end-run CrLf fields x tail = rw m13 refl

  -- and of one of a single empty cell
  pub blank-run : (e : LineEnd) (tail : List ℕ) → next_record (config_by d m) st.StartRecord [] [] (34 ∷ 34 ∷ (end_text (terminator_of e) ++ tail))
      ≡ Some ([] ∷ [], after-head e, behind-end e ++ tail)
  unfolding next_record
  blank-run Lf tail = rw (k34, m10) refl
  blank-run CrLf tail = rw (k34, m13) refl

  -- the rest of a record, after a field
  pub rest-run : (fields : List (List ℕ)) (x : List ℕ) (rest : List (List ℕ)) (tail : List ℕ)
      → next_record (config_by d m) st.InField fields x (fields_text (writer_in s d m) rest ++ (end_text (terminator_of s.line_end) ++ tail)) ≡ Some (read-of s.line_end (fields ++ (x ∷ rest)) tail)
  unfolding next_record fields_text
  rest-run fields x [] tail = end-run s.line_end fields x tail
  rest-run fields x (y ∷ ys) tail =
      let e = text-head ys tail in
      let u : (field_text (writer_in s d m) y ++ fields_text (writer_in s d m) ys) ++ (end_text (terminator_of s.line_end) ++ tail) ≡ field_text (writer_in s d m) y ++ (head-of ys ∷ tail-of ys tail) =
      append_assoc (field_text (writer_in s d m) y) (fields_text (writer_in s d m) ys) (end_text (terminator_of s.line_end) ++ tail) ∙ ap (λ (t : List ℕ). field_text (writer_in s d m) y ++ t) e in
      let run = field-run (fields ++ (x ∷ [])) y (head-of ys) (tail-of ys tail) (head-plain ys) in
      let more = rest-run (fields ++ (x ∷ [])) y ys tail in
      let back = subst (λ (t : List ℕ). next_record (config_by d m) st.InField (fields ++ (x ∷ [])) y t ≡ Some (read-of s.line_end ((fields ++ (x ∷ [])) ++ (y ∷ ys)) tail)) e more in
      rw (end-field fields x _, u) (run ∙ back ∙ rw (append_assoc fields (x ∷ []) (y ∷ ys)) refl)

  -- a record's text starts as a field's does, where it starts with no mark of a record's end
  pub first-quoted : (x : List ℕ) (c : ℕ) (tail : List ℕ) → in-quotes x ≡ true
      → next_record (config_by d m) st.StartRecord [] [] (field_text (writer_in s d m) x ++ (c ∷ tail))
      ≡ next_record (config_by d m) st.StartField [] [] (field_text (writer_in s d m) x ++ (c ∷ tail))
  first-quoted x c tail needs = rw needs (record-same [] [] 34 _ refl refl k34)

  pub first-plain : (x : List ℕ) (c : ℕ) (tail : List ℕ) → list_any (needs_byte (writer_in s d m)) (x) ≡ false
      → ((length x == 0) ≡ false) ⊎ (((c == 13) ≡ false) × ((c == 10) ≡ false) × (is_byte m c ≡ false))
      → next_record (config_by d m) st.StartRecord [] [] (x ++ (c ∷ tail)) ≡ next_record (config_by d m) st.StartField [] [] (x ++ (c ∷ tail))
  first-plain [] c tail p (inl e) = cc e
  first-plain [] c tail p (inr n) = record-same [] [] c tail n.0 n.1 n.2
  first-plain (b ∷ rest) c tail p h =
      let q = plain-byte b (or-left _ _ p) in
      record-same [] [] b (rest ++ (c ∷ tail)) q.2 q.3 q.4

  -- a record, given how its text starts
  record-run : (x : List ℕ) (rest : List (List ℕ)) (tail : List ℕ)
      → next_record (config_by d m) st.StartRecord [] [] (field_text (writer_in s d m) x ++ (head-of rest ∷ tail-of rest tail))
      ≡ next_record (config_by d m) st.StartField [] [] (field_text (writer_in s d m) x ++ (head-of rest ∷ tail-of rest tail))
      → next_record (config_by d m) st.StartRecord [] [] (field_text (writer_in s d m) x ++ (fields_text (writer_in s d m) rest ++ (end_text (terminator_of s.line_end) ++ tail))) ≡ Some (read-of s.line_end (x ∷ rest) tail)
  record-run x rest tail first =
      let e = text-head rest tail in
      let run = field-run [] x (head-of rest) (tail-of rest tail) (head-plain rest) in
      let more = subst (λ (t : List ℕ). next_record (config_by d m) st.InField [] x t ≡ Some (read-of s.line_end ([] ++ (x ∷ rest)) tail)) e (rest-run [] x rest tail) in
      rw e (first ∙ run ∙ more)

  -- the text of a record that is not blank
  row-plain : (x : List ℕ) (rest : List (List ℕ)) (tail : List ℕ) → is_blank (writer_in s d m) (x ∷ rest) ≡ false
      → row_text (writer_in s d m) (x ∷ rest) ++ tail ≡ field_text (writer_in s d m) x ++ (fields_text (writer_in s d m) rest ++ (end_text (terminator_of s.line_end) ++ tail))
  row-plain x rest tail b = rw b (append_assoc (field_text (writer_in s d m) x ++ fields_text (writer_in s d m) rest) (end_text (terminator_of s.line_end)) tail
      ∙ append_assoc (field_text (writer_in s d m) x) (fields_text (writer_in s d m) rest) (end_text (terminator_of s.line_end) ++ tail))

  not-zero : (n : ℕ) → (suc n == 0) ≡ true → ⊥
  not-zero n e = cc (sym e ∙ ne_eqb (suc n) 0 (λ z. cc z))

  -- a field that is written as nothing is empty
  pub empty-field : (x : List ℕ) → (length (field_text (writer_in s d m) x) == 0) ≡ true → x ≡ []
  empty-field [] e = refl
  empty-field (b ∷ rest) e = elim (cases_Bool (in-quotes (b ∷ rest))) [
    | inl needs ↦ absurd (not-zero _ (rw needs at e))
    | inr plain ↦ absurd (not-zero _ (rw plain at e))
  ]

  -- a record with more than one field
  pub read-write-many : (x y : List ℕ) (ys : List (List ℕ)) (tail : List ℕ)
      → next_record (config_by d m) st.StartRecord [] [] (row_text (writer_in s d m) (x ∷ y ∷ ys) ++ tail) ≡ Some (read-of s.line_end (x ∷ y ∷ ys) tail)
  unfolding is_blank
  read-write-many x y ys tail = rw (row-plain x (y ∷ ys) tail refl) (record-run x (y ∷ ys) tail (elim (cases_Bool (in-quotes x)) [
    | inl needs ↦ first-quoted x d _ needs
    | inr plain ↦ rw plain (first-plain x d _ (unquoted x plain) (inr (n13, n10, kd)))
  ]))

  -- a record of one field that is written as nothing, and so as two quotes
  blank-one : (x tail : List ℕ) → (length (field_text (writer_in s d m) x) == 0) ≡ true
      → next_record (config_by d m) st.StartRecord [] [] (row_text (writer_in s d m) (x ∷ []) ++ tail) ≡ Some (read-of s.line_end (x ∷ []) tail)
  unfolding is_blank fields_text
  blank-one x tail none =
      let bare : field_text (writer_in s d m) x ≡ [] = nothing _ none in
      rw (none, bare, empty-field x none) (blank-run s.line_end tail)

  -- a record of one field
  pub read-write-one : (x tail : List ℕ)
      → next_record (config_by d m) st.StartRecord [] [] (row_text (writer_in s d m) (x ∷ []) ++ tail) ≡ Some (read-of s.line_end (x ∷ []) tail)
  unfolding is_blank next_record fields_text escaped
  read-write-one x tail = elim (cases_Bool (length (field_text (writer_in s d m) x) == 0)) [
    | inl none ↦ blank-one x tail none
    | inr some ↦ rw (row-plain x [] tail some) (record-run x [] tail (elim (cases_Bool (in-quotes x)) [
      | inl needs ↦ first-quoted x (head-of []) _ needs
      | inr plain ↦ rw plain (first-plain x (head-of []) _ (unquoted x plain) (inl (rw plain at some)))
    ]))
  ]

  -- a record reads back
  pub read-write : (fields : List (List ℕ)) (tail : List ℕ)
      → next_record (config_by d m) st.StartRecord [] [] (row_text (writer_in s d m) fields ++ tail) ≡ Some (read-of s.line_end (read_back fields) tail)
  unfolding is_blank next_record fields_text
  read-write [] tail = blank-run s.line_end tail
  read-write (x ∷ []) tail = read-write-one x tail
  read-write (x ∷ y ∷ ys) tail = read-write-many x y ys tail

  -- the last cell of a text, whose row has no end
  open-plain : (fields : List (List ℕ)) (x : List ℕ) → list_any (needs_byte (writer_in s d m)) x ≡ false
      → next_record (config_by d m) st.StartField fields [] x ≡ Some (fields ++ (x ∷ []), st.StartRecord, [])
  unfolding next_record
  open-plain fields [] p = refl
  open-plain fields (b ∷ rest) p =
      let q = plain-byte b (or-left _ _ p) in
      let run = plain-run fields [] (b ∷ rest) [] p in
      start-same fields [] b rest q.1 ∙ ap (next_record (config_by d m) st.InField fields []) (sym (append-nil (b ∷ rest))) ∙ run

  pub open-field : (fields : List (List ℕ)) (x : List ℕ)
      → next_record (config_by d m) st.StartField fields [] (field_text (writer_in s d m) x) ≡ Some (fields ++ (x ∷ []), st.StartRecord, [])
  unfolding next_record
  open-field fields x = elim (cases_Bool (in-quotes x)) [
    | inl needs ↦ rw needs (quoted-run fields [] x [])
    | inr plain ↦ rw plain (open-plain fields x (unquoted x plain))
  ]

  open-rest : (fields : List (List ℕ)) (x : List ℕ) (rest : List (List ℕ))
      → next_record (config_by d m) st.InField fields x (fields_text (writer_in s d m) rest) ≡ Some (fields ++ (x ∷ rest), st.StartRecord, [])
  unfolding next_record fields_text
  open-rest fields x [] = refl
  open-rest fields x (y ∷ []) =
      rw (end-field fields x (field_text (writer_in s d m) y ++ []), append-nil (field_text (writer_in s d m) y))
      (open-field (fields ++ (x ∷ [])) y ∙ rw (append_assoc fields (x ∷ []) (y ∷ [])) refl)
  open-rest fields x (y ∷ z ∷ zs) =
      let run = field-run (fields ++ (x ∷ [])) y d (field_text (writer_in s d m) z ++ fields_text (writer_in s d m) zs) n34 in
      let more = open-rest (fields ++ (x ∷ [])) y (z ∷ zs) in
      rw (end-field fields x (field_text (writer_in s d m) y ++ fields_text (writer_in s d m) (z ∷ zs))) (run ∙ more ∙ rw (append_assoc fields (x ∷ []) (y ∷ z ∷ zs)) refl)

  open-start : (x : List ℕ) → (length x == 0) ≡ false → list_any (needs_byte (writer_in s d m)) x ≡ false
      → next_record (config_by d m) st.StartRecord [] [] x ≡ next_record (config_by d m) st.StartField [] [] x
  open-start [] e p = cc e
  open-start (b ∷ rest) e p =
      let q = plain-byte b (or-left _ _ p) in
      record-same [] [] b rest q.2 q.3 q.4

  -- the same of a record of one field
  pub open-one : (x : List ℕ) → (length (field_text (writer_in s d m) x) == 0) ≡ false
      → next_record (config_by d m) st.StartRecord [] [] (field_text (writer_in s d m) x) ≡ Some (x ∷ [], st.StartRecord, [])
  open-one x some = elim (cases_Bool (in-quotes x)) [
    | inl needs ↦
        let text : field_text (writer_in s d m) x ≡ quoted (writer_in s d m) x = rw needs refl in
        rw text (record-same [] [] 34 (escaped (writer_in s d m) x ++ (34 ∷ [])) refl refl k34 ∙ (rw text at (open-field [] x)))
    | inr plain ↦
        let text : field_text (writer_in s d m) x ≡ x = rw plain refl in
        rw text (open-start x (rw text at some) (unquoted x plain) ∙ (rw text at (open-field [] x)))
  ]

  pub open-blank : next_record (config_by d m) st.StartRecord [] [] (34 ∷ 34 ∷ []) ≡ Some ([] ∷ [], st.StartRecord, [])
  unfolding next_record
  open-blank = rw k34 refl

  -- the last record of a text, which has no end
  pub open-record : (row : List (List ℕ)) → next_record (config_by d m) st.StartRecord [] [] (open_row (writer_in s d m) row) ≡ Some (read_back row, st.StartRecord, [])
  unfolding is_blank fields_text
  open-record [] = open-blank
  open-record (x ∷ []) = elim (cases_Bool (length (field_text (writer_in s d m) x) == 0)) [
    | inl none ↦
        let bare : field_text (writer_in s d m) x ≡ [] = nothing _ none in
        rw (none, bare, empty-field x none) open-blank
    | inr some ↦ rw (some, append-nil (field_text (writer_in s d m) x), append-nil (field_text (writer_in s d m) x)) (open-one x some)
  ]
  open-record (x ∷ y ∷ ys) =
      let W = writer_in s d m in
      let more = field_text W y ++ fields_text W ys in
      let first : next_record (config_by d m) st.StartRecord [] [] (field_text W x ++ (d ∷ more)) ≡ next_record (config_by d m) st.StartField [] [] (field_text W x ++ (d ∷ more))
      = elim (cases_Bool (in-quotes x)) [
        | inl needs ↦ first-quoted x d more needs
        | inr plain ↦ rw plain (first-plain x d more (unquoted x plain) (inr (n13, n10, kd)))
      ] in
      rw (append-nil (field_text W x ++ fields_text W (y ∷ ys))) (first ∙ field-run [] x d more n34 ∙ open-rest [] x (y ∷ ys))
