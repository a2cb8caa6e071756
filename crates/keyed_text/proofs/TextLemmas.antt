-- A text has one list of rows, each with a cell, and what is written reads back.
use Rattle.std.proofs.Common.{◌≡◌, ◌≢◌, ◌∙◌, ℕ, List, [], ◌∷◌, ◌++◌, ◌==◌, Some, None, true, false, refl, sym, ap, ap₂, subst, append_assoc, arith, inl, inr}
use Rattle.std.specs.Prelude.{◌<◌, ◌≤◌, ◌-◌, All, Bool, Option, length, take, if◌then◌else◌}
use Rattle.std.proofs.lemmas.Bool.{cases_Bool, eq-eqb, ne_eqb, true≢false}
use Rattle.std.proofs.lemmas.List.Elements.{All-cons, All-head, All-nil, All-tail}
use Rattle.std.proofs.Math.Seq.{take-append_seam}
use Rattle.std.proofs.lemmas.List.{append-nil, length-append}
use Rattle.csv.specs.Machine.{Read, is_byte, ends_at_end, field_after, fields_after, is_end, next_record, step}
use Rattle.csv.specs.Reading.{AreRecords, Reached, is_bom, strip_bom}
use Rattle.csv.specs.Writing.{by_style, end_text, field_text, fields_text, is_blank, needs_quotes, read_back, row_body, row_text}
use Rattle.csv.specs.declared.parser.Action.{Action}
use Rattle.csv.specs.declared.parser.Action.TheVariants as act
use Rattle.csv.specs.declared.parser.Config.{Config}
use Rattle.csv.specs.declared.parser.State.{State}
use Rattle.csv.specs.declared.parser.State.TheVariants as st
use Rattle.keyed_text.proofs.WriteLemmas.{text_by-and}
use Rattle.keyed_text.proofs.RoundTrip.{behind-run, open-record, read-of, read-write}
use Rattle.keyed_text.specs.Texts.{AreRows, BeginsComments, PartsCells, ReadsAs, config_by, ended, open_row, quote_style, styled_text, terminator_of, text_by, writer_in}
use Rattle.keyed_text.specs.declared.style.LineEnd.{LineEnd}
use Rattle.keyed_text.specs.declared.style.LineEnd.TheVariants.{CrLf, Lf}
use Rattle.keyed_text.specs.declared.style.Style.{Style}
use Rattle.keyed_text.specs.Laws.{HasCells, HasNoMark}

some-same : {A : Type 0} {x y : A} → Some x ≡ Some y → x ≡ y
some-same e = cc e

-- two ways to read a text are one
reached-once : (cfg : Config) (s s2 t2 : State) (xs ys zs : List ℕ) (a b : List (List (List ℕ)))
    → Reached cfg s xs a s2 ys → next_record cfg s2 [] [] ys ≡ None → Reached cfg s xs b t2 zs → next_record cfg t2 [] [] zs ≡ None → a ≡ b
unfolding Reached
reached-once cfg s s2 t2 xs ys zs [] [] h n k m = refl
reached-once cfg s s2 t2 xs ys zs [] (b ∷ bs) h n k m =
    let e : next_record cfg s [] [] xs ≡ None = rw (h.0, h.1) n in
    cc (sym e ∙ k.1)
reached-once cfg s s2 t2 xs ys zs (a ∷ more) [] h n k m =
    let e : next_record cfg s [] [] xs ≡ None = rw (k.0, k.1) m in
    cc (sym e ∙ h.1)
reached-once cfg s s2 t2 xs ys zs (a ∷ more) (b ∷ bs) h n k m =
    let same : h.0 ≡ k.0 = some-same (sym h.1 ∙ k.1) in
    ap₂ (λ r rest. r ∷ rest) (h.2 ∙ ap (λ (p : Read). p.0) same ∙ sym k.2)
    (reached-once cfg h.0.1 s2 t2 h.0.2 ys zs more bs h.3 n (subst (λ (p : Read). Reached cfg p.1 p.2 bs t2 zs) (sym same) k.3) m)

pub rows-once : (d : ℕ) (m : Option ℕ) (text : List ℕ) (a b : List (List (List ℕ))) → AreRows d m text a → AreRows d m text b → a ≡ b
rows-once d m text a b h k = reached-once (config_by d m) st.StartRecord h.0 k.0 (strip_bom text) h.1 k.1 a b h.2 h.3 k.2 k.3

full : (fields : List (List ℕ)) (field : List ℕ) → fields ++ (field ∷ []) ≢ []
full [] field e = cc e
full (f ∷ fs) field e = cc e

full-end : (a : Action) (fields : List (List ℕ)) (field : List ℕ) → is_end a ≡ true → fields_after a fields field ≢ []
full-end act.EndRecord fields field e = full fields field
full-end act.Skip fields field e = absurd (cc e)
full-end act.Copy fields field e = absurd (cc e)
full-end act.EndField fields field e = absurd (cc e)

-- a record that is read has a field
next-full : (cfg : Config) (s : State) (fields : List (List ℕ)) (field xs : List ℕ) (p : Read) → next_record cfg s fields field xs ≡ Some p → p.0 ≢ []
unfolding next_record
next-full cfg s fields field [] p e = elim (cases_Bool (ends_at_end s)) [
  | inl ends ↦ rw (← some-same (rw ends at e)) (full fields field)
  | inr on ↦ cc (rw on at e)
]
next-full cfg s fields field (c ∷ rest) p e = elim (cases_Bool (is_end (step cfg s c).1)) [
  | inl ends ↦ rw (← some-same (rw ends at e)) (full-end (step cfg s c).1 fields field ends)
  | inr on ↦ next-full cfg (step cfg s c).0 (fields_after (step cfg s c).1 fields field) (field_after (step cfg s c).1 c field) rest p (rw on at e)
]

reached-full : (cfg : Config) (s s2 : State) (xs ys : List ℕ) (rows : List (List (List ℕ))) → Reached cfg s xs rows s2 ys → All HasCells rows
unfolding Reached
reached-full cfg s s2 xs ys [] h = All-nil HasCells
reached-full cfg s s2 xs ys (r ∷ rs) h = All-cons HasCells r rs (rw h.2 (next-full cfg s [] [] xs h.0 h.1)) (reached-full cfg h.0.1 s2 h.0.2 ys rs h.3)

pub rows-full : (d : ℕ) (m : Option ℕ) (text : List ℕ) (rows : List (List (List ℕ))) → AreRows d m text rows → All HasCells rows
rows-full d m text rows h = reached-full (config_by d m) st.StartRecord h.0 (strip_bom text) h.1 rows h.2

-- a row with a cell reads back as it is
pub same-back : (row : List (List ℕ)) → HasCells row → row ≡ read_back row
same-back [] h = absurd (h refl)
same-back (x ∷ row) h = refl

-- a text whose first byte begins no mark
strip-head : (h : ℕ) (t : List ℕ) → (h == 239) ≡ false → strip_bom (h ∷ t) ≡ h ∷ t
unfolding strip_bom
strip-head h [] e = refl
strip-head h (b ∷ []) e = refl
strip-head h (b ∷ c ∷ t) e = rw e refl

second-off : (a b c : ℕ) → (b == 187) ≡ false → is_bom a b c ≡ false
second-off a b c e = elim (cases_Bool (a == 239)) [ inl y ↦ rw (y, e) refl | inr n ↦ rw n refl ]

third-off : (a b c : ℕ) → (c == 191) ≡ false → is_bom a b c ≡ false
third-off a b c e = elim (cases_Bool (a == 239)) [
  | inl y ↦ elim (cases_Bool (b == 187)) [ inl z ↦ rw (y, z, e) refl | inr n ↦ rw (y, n) refl ]
  | inr n ↦ rw n refl
]

not-longer : (a b c : ℕ) (xs : List ℕ) → xs ≡ a ∷ b ∷ c ∷ xs → ⊥
not-longer a b c xs e =
    let long : length xs ≡ length (a ∷ b ∷ c ∷ xs) = ap length e in
    omega (arith, long)

-- a cell that begins with no mark, and after it a byte that goes on with none
strip-cell : (x : List ℕ) (h : ℕ) (t : List ℕ) → strip_bom x ≡ x → (h == 239) ≡ false → (h == 187) ≡ false → (h == 191) ≡ false
    → strip_bom (x ++ (h ∷ t)) ≡ x ++ (h ∷ t)
unfolding strip_bom
strip-cell [] h t e p q r = strip-head h t p
strip-cell (a ∷ []) h [] e p q r = refl
strip-cell (a ∷ []) h (c ∷ t) e p q r = rw (second-off a h c q) refl
strip-cell (a ∷ b ∷ []) h t e p q r = rw (third-off a b h r) refl
strip-cell (a ∷ b ∷ c ∷ x) h t e p q r = elim (cases_Bool (is_bom a b c)) [
  | inl mark ↦ absurd (not-longer a b c x (rw mark at e))
  | inr none ↦ rw none refl
]

-- a row, and those before it, of some rows
last-of : (row : List (List ℕ)) (rows : List (List (List ℕ))) → All HasCells (row ∷ rows)
    → (init : List (List (List ℕ))) × (last : List (List ℕ)) × (row ∷ rows ≡ init ++ (last ∷ [])) × All HasCells init × HasCells last
last-of row [] h = ([], row, refl, All-nil HasCells, All-head HasCells row [] h)
last-of row (next ∷ rows) h =
    let l = last-of next rows (All-tail HasCells row (next ∷ rows) h) in
    (row ∷ l.0, l.1, ap (λ rest. row ∷ rest) l.2, All-cons HasCells row l.0 (All-head HasCells row (next ∷ rows) h) l.3, l.4)

-- a beginning of a text that begins with no mark
pub strip-beginning : (t more : List ℕ) → strip_bom (t ++ more) ≡ t ++ more → strip_bom t ≡ t
unfolding strip_bom
strip-beginning [] more e = refl
strip-beginning (a ∷ []) more e = refl
strip-beginning (a ∷ b ∷ []) more e = refl
strip-beginning (a ∷ b ∷ c ∷ t) more e = elim (cases_Bool (is_bom a b c)) [
  | inl mark ↦ absurd (not-longer a b c (t ++ more) (rw mark at e))
  | inr none ↦ rw none refl
]

pub less-end : (xs ys : List ℕ) → take (length (xs ++ ys) - length ys) (xs ++ ys) ≡ xs
less-end xs ys =
    let count : length (xs ++ ys) - length ys ≡ length xs = omega (arith, length-append xs ys) in
    rw count (take-append_seam xs ys)

pub no-comment-quotes : (d : ℕ) (m : Option ℕ) → BeginsComments d m → is_byte m 34 ≡ false
no-comment-quotes d None h = refl
no-comment-quotes d (Some b) h = h.0

pub no-comment-parts : (d : ℕ) (m : Option ℕ) → BeginsComments d m → is_byte m d ≡ false
no-comment-parts d None h = refl
no-comment-parts d (Some b) h = h.1

module _ (s : Style) (d : ℕ) (m : Option ℕ) (parts : PartsCells d) (begins : BeginsComments d m) where
  abbrev text-of : List (List (List ℕ)) → List ℕ
  text-of rows = text_by (writer_in s d m) rows

  apart : (b : ℕ) → (d < 128) → 128 ≤ b → (d == b) ≡ false
  apart b lt le = ne_eqb d b (λ e. omega (arith, e, lt, le))

  n239 : (d == 239) ≡ false
  n239 = apart 239 parts.3 (omega arith)

  n187 : (d == 187) ≡ false
  n187 = apart 187 parts.3 (omega arith)

  n191 : (d == 191) ≡ false
  n191 = apart 191 parts.3 (omega arith)

  pub m10 : (10 == d) ≡ false
  m10 = ne_eqb 10 d (λ e. true≢false (sym (eq-eqb d 10 (sym e)) ∙ parts.2))

  pub m13 : (13 == d) ≡ false
  m13 = ne_eqb 13 d (λ e. true≢false (sym (eq-eqb d 13 (sym e)) ∙ parts.1))

  read : (row : List (List ℕ)) (tail : List ℕ)
      → next_record (config_by d m) st.StartRecord [] [] (row_text (writer_in s d m) row ++ tail) ≡ Some (read-of s.line_end (read_back row) tail)
  read row tail = read-write s d m (eq-eqb d d refl) parts.0 parts.1 parts.2 m10 m13 (no-comment-quotes d m begins) (no-comment-parts d m begins) row tail

  -- what is read from a state of a text is what is read where the next read is the same
  pub records-alike : (from : State) (text tail : List ℕ) (more : List (List (List ℕ)))
      → next_record (config_by d m) from [] [] text ≡ next_record (config_by d m) st.StartRecord [] [] tail
      → AreRecords (config_by d m) st.StartRecord tail more → AreRecords (config_by d m) from text more
  unfolding Reached
  records-alike from text tail [] same are =
      (from, text, (refl, refl), same ∙ ap₂ (λ state left. next_record (config_by d m) state [] [] left) are.2.0 are.2.1 ∙ are.3)
  records-alike from text tail (row ∷ rows) same are = (are.0, are.1, (are.2.0, same ∙ are.2.1, are.2.2, are.2.3), are.3)

  -- rows are read from a state of a text, and others after them, where this reads as the text of the rows with that of the others after it
  reads-from : (rows more : List (List (List ℕ))) (tail : List ℕ) (from : State) (text : List ℕ)
      → next_record (config_by d m) from [] [] text ≡ next_record (config_by d m) st.StartRecord [] [] (text-of rows ++ tail)
      → AreRecords (config_by d m) st.StartRecord tail more → All HasCells rows → AreRecords (config_by d m) from text (rows ++ more)
  unfolding Reached
  reads-from [] more tail from text same are h = records-alike from text tail more same are
  reads-from (row ∷ rows) more tail from text same are h =
      let after = read-of s.line_end (read_back row) (text-of rows ++ tail) in
      let rest = reads-from rows more tail after.1 after.2 (behind-run (config_by d m) s.line_end (text-of rows ++ tail)) are (All-tail HasCells row rows h) in
      let text-is = append_assoc (row_text (writer_in s d m) row) (text-of rows) tail in
      let first = same ∙ ap (next_record (config_by d m) st.StartRecord [] []) text-is ∙ read row (text-of rows ++ tail) in
      (rest.0, rest.1, (after, first, same-back row (All-head HasCells row rows h), rest.2), rest.3)

  pub none-there : AreRecords (config_by d m) st.StartRecord [] []
  unfolding Reached next_record
  none-there = (st.StartRecord, [], (refl, refl), refl)

  open-last : (last : List (List ℕ)) → HasCells last
      → AreRecords (config_by d m) st.StartRecord (open_row (writer_in s d m) last) (last ∷ [])
  unfolding Reached next_record
  open-last last has =
      let opened = open-record s d m (eq-eqb d d refl) parts.0 parts.1 parts.2 m10 m13 (no-comment-quotes d m begins) (no-comment-parts d m begins) last in
      (st.StartRecord, [], ((read_back last, st.StartRecord, []), opened, same-back last has, (refl, refl)), refl)

  -- the text of rows reads as them from the start of a record
  records-back : (rows : List (List (List ℕ))) → All HasCells rows → AreRecords (config_by d m) st.StartRecord (text-of rows) rows
  records-back rows h =
      rw (append-nil rows) at (reads-from rows [] [] st.StartRecord (text-of rows) (ap (next_record (config_by d m) st.StartRecord [] []) (sym (append-nil (text-of rows)))) none-there h)

  -- and so it does where the last row has no end
  open-back : (rows : List (List (List ℕ))) (last : List (List ℕ)) → All HasCells rows → HasCells last
      → AreRecords (config_by d m) st.StartRecord (text-of rows ++ open_row (writer_in s d m) last) (rows ++ (last ∷ []))
  open-back rows last h has = reads-from rows (last ∷ []) _ st.StartRecord _ refl (open-last last has) h

  -- whether a cell is written in quotes
  abbrev in-quotes : List ℕ → Bool
  in-quotes x = by_style (quote_style s.quotes) (needs_quotes (writer_in s d m) x)

  -- what stands after the first cell of a row
  abbrev behind : List ℕ → List (List ℕ) → List ℕ → List ℕ
  behind x row more = fields_text (writer_in s d m) row ++ (((if is_blank (writer_in s d m) (x ∷ row) then 34 ∷ 34 ∷ [] else []) ++ end_text (terminator_of s.line_end)) ++ more)

  abbrev GoesOn : List ℕ → Type 0
  GoesOn u = (h : ℕ) × (t : List ℕ) × (u ≡ h ∷ t) × ((h == 239) ≡ false) × ((h == 187) ≡ false) × ((h == 191) ≡ false)

  end-goes-on : (e : LineEnd) (more : List ℕ) → GoesOn (end_text (terminator_of e) ++ more)
  end-goes-on Lf more = (10, more, refl, refl, refl, refl)
  end-goes-on CrLf more = (13, 10 ∷ more, refl, refl, refl, refl)

  goes-on : (x : List ℕ) (row : List (List ℕ)) (more : List ℕ) → GoesOn (behind x row more)
  unfolding fields_text is_blank
  goes-on x [] more = elim (cases_Bool (length (field_text (writer_in s d m) x) == 0)) [
    | inl none ↦ (34, 34 ∷ (end_text (terminator_of s.line_end) ++ more), rw none refl, refl, refl, refl)
    | inr some ↦
        let g = end-goes-on s.line_end more in
        (g.0, g.1, rw some g.2, g.3, g.4, g.5)
  ]
  goes-on x (z ∷ zs) more = (d, _, refl, n239, n187, n191)

  -- the text of a row that begins with a cell
  row-behind : (x : List ℕ) (row : List (List ℕ)) (more : List ℕ) → row_text (writer_in s d m) (x ∷ row) ++ more ≡ field_text (writer_in s d m) x ++ behind x row more
  row-behind x row more =
      append_assoc (field_text (writer_in s d m) x ++ fields_text (writer_in s d m) row) _ more ∙ append_assoc (field_text (writer_in s d m) x) (fields_text (writer_in s d m) row) _

  row-plain : (x : List ℕ) (row : List (List ℕ)) (more : List ℕ) → strip_bom x ≡ x
      → strip_bom (row_text (writer_in s d m) (x ∷ row) ++ more) ≡ row_text (writer_in s d m) (x ∷ row) ++ more
  row-plain x row more e = rw (row-behind x row more) (elim (cases_Bool (in-quotes x)) [
    | inl needs ↦ rw needs (strip-head 34 _ refl)
    | inr plain ↦
        let text : field_text (writer_in s d m) x ≡ x = rw plain refl in
        let g = goes-on x row more in
        rw (text, g.2) (strip-cell x g.0 g.1 e g.3 g.4 g.5)
  ])

  rows-plain : (header : List (List ℕ)) (rows : List (List (List ℕ))) → HasCells header → HasNoMark header
      → strip_bom (text-of (header ∷ rows)) ≡ text-of (header ∷ rows)
  rows-plain [] rows h e = absurd (h refl)
  rows-plain (x ∷ row) rows h e = row-plain x row (text-of rows) e

  -- rows with an end each, after which the last one is written without
  text-last : (rows : List (List (List ℕ))) (last : List (List ℕ))
      → text-of (rows ++ (last ∷ [])) ≡ (text-of rows ++ open_row (writer_in s d m) last) ++ end_text (terminator_of s.line_end)
  text-last rows last =
      let W = writer_in s d m in
      let blank : List ℕ = if is_blank W last then 34 ∷ 34 ∷ [] else [] in
      let end = end_text (terminator_of s.line_end) in
      text_by-and W rows last ∙ ap (λ t. text-of rows ++ t) (sym (append_assoc (row_body W last) blank end))
      ∙ sym (append_assoc (text-of rows) (open_row W last) end)

  -- a text of rows less the end of the last one
  abbrev cut-of : List ℕ → List ℕ
  cut-of text = take (length text - length (end_text (terminator_of s.line_end))) text

  cut-is : (rows : List (List (List ℕ))) (last : List (List ℕ)) → cut-of (text-of (rows ++ (last ∷ []))) ≡ text-of rows ++ open_row (writer_in s d m) last
  cut-is rows last = ap cut-of (text-last rows last) ∙ less-end (text-of rows ++ open_row (writer_in s d m) last) (end_text (terminator_of s.line_end))

  cut-back : (header : List (List ℕ)) (rows : List (List (List ℕ))) → All HasCells (header ∷ rows)
      → AreRecords (config_by d m) st.StartRecord (cut-of (text-of (header ∷ rows))) (header ∷ rows)
  cut-back header rows h =
      let l = last-of header rows h in
      let P : List (List (List ℕ)) → Type 0 = λ all. AreRecords (config_by d m) st.StartRecord (cut-of (text-of all)) all in
      let Q : List ℕ → Type 0 = λ text. AreRecords (config_by d m) st.StartRecord text (l.0 ++ (l.1 ∷ [])) in
      subst P (sym l.2) (subst Q (sym (cut-is l.0 l.1)) (open-back l.0 l.1 l.3 l.4))

  cut-plain : (header : List (List ℕ)) (rows : List (List (List ℕ))) → All HasCells (header ∷ rows)
      → strip_bom (text-of (header ∷ rows)) ≡ text-of (header ∷ rows) → strip_bom (cut-of (text-of (header ∷ rows))) ≡ cut-of (text-of (header ∷ rows))
  cut-plain header rows h =
      let l = last-of header rows h in
      let P : List (List (List ℕ)) → Type 0 = λ all. strip_bom (text-of all) ≡ text-of all → strip_bom (cut-of (text-of all)) ≡ cut-of (text-of all) in
      let whole = text-last l.0 l.1 in
      let beginning : P (l.0 ++ (l.1 ∷ [])) = λ plain.
      subst (λ t. strip_bom t ≡ t) (sym (cut-is l.0 l.1))
      (strip-beginning (text-of l.0 ++ open_row (writer_in s d m) l.1) (end_text (terminator_of s.line_end)) (subst (λ t. strip_bom t ≡ t) whole plain)) in
      subst P (sym l.2) beginning

  ended-back : (header : List (List ℕ)) (rows : List (List (List ℕ))) → All HasCells (header ∷ rows)
      → AreRecords (config_by d m) st.StartRecord (ended s (text-of (header ∷ rows))) (header ∷ rows)
  ended-back header rows h = elim (cases_Bool s.has_end) [
    | inl has ↦ rw has (records-back (header ∷ rows) h)
    | inr lacks ↦ rw lacks (cut-back header rows h)
  ]

  ended-plain : (header : List (List ℕ)) (rows : List (List (List ℕ))) → All HasCells (header ∷ rows)
      → strip_bom (text-of (header ∷ rows)) ≡ text-of (header ∷ rows) → strip_bom (ended s (text-of (header ∷ rows))) ≡ ended s (text-of (header ∷ rows))
  ended-plain header rows h plain = elim (cases_Bool s.has_end) [
    | inl has ↦ rw has plain
    | inr lacks ↦ rw lacks (cut-plain header rows h plain)
  ]

  -- a file in any style reads back as its rows
  pub file-back : (header : List (List ℕ)) (rows : List (List (List ℕ))) → All HasCells (header ∷ rows)
      → strip_bom (text-of (header ∷ rows)) ≡ text-of (header ∷ rows) → AreRows d m (styled_text s d m (header ∷ rows)) (header ∷ rows)
  unfolding strip_bom
  file-back header rows h plain = elim (cases_Bool s.has_mark) [
    | inl has ↦ rw has (ended-back header rows h)
    | inr lacks ↦ rw (lacks, ended-plain header rows h plain) (ended-back header rows h)
  ]

  same-head : {A : Type 0} {x y : A} {xs ys : List A} → x ∷ xs ≡ y ∷ ys → (x ≡ y) × (xs ≡ ys)
  same-head e = (cc e, cc e)

  pub sheet-back : (header : List (List ℕ)) (rows : List (List (List ℕ))) → HasNoMark header → All HasCells (header ∷ rows)
      → ReadsAs d m (styled_text s d m (header ∷ rows)) header rows
      × ((names : List (List ℕ)) (found : List (List (List ℕ))) → ReadsAs d m (styled_text s d m (header ∷ rows)) names found → (names ≡ header) × (found ≡ rows))
  sheet-back header rows plain h =
      let reads = file-back header rows h (rows-plain header rows (All-head HasCells header rows h) plain) in
      (reads, λ names found other. same-head (rows-once d m _ (names ∷ found) (header ∷ rows) other reads))
