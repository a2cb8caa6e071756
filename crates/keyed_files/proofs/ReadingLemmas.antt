-- What a source has given of a text, from its lines to its records.
use Rattle.std.proofs.Common.{◌≡◌, ◌∙◌, ◌==◌, ℕ, List, [], ◌∷◌, ◌++◌, Option, Some, None, Bool, true, false, refl, sym, ap, subst, inl, inr, if◌then◌else◌}
use Rattle.std.specs.Prelude.{◌&&◌, Err, IfErr, IfSome, IsErrAnd, Ok, Result, is_none, option_map}
use Rattle.std.specs.Io.KnownBytes.{Keeps}
use Rattle.std.proofs.KnownBytes.{prepend_known-nil}
use Rattle.std.proofs.lemmas.Bool.{cases_Bool, eqb-true}
use Rattle.csv.specs.Machine.{Read, next_record}
use Rattle.csv.specs.Reading.{Reached, reader_state, strip_bom}
use Rattle.csv.specs.Records.{fields_of}
use Rattle.csv.specs.declared.parser.Config.{Config}
use Rattle.csv.specs.declared.parser.State.{State}
use Rattle.csv.specs.declared.parser.State.TheVariants as st
use Rattle.keyed_text.specs.Streams.{GivesRow, HasRead}
use Rattle.keyed_text.specs.Texts.{AreRows, config_by}
use Rattle.keyed_text.specs.declared.row_reader.RowReader.{RowReader}
use Rattle.keyed_text.proofs.TextLemmas.{rows-once}
use Rattle.keyed_requests.specs.FormBytes.{comment_of, delimiter_of}
use Rattle.keyed_requests.specs.declared.request.Comment.{Comment}
use Rattle.keyed_requests.specs.declared.request.Form.{Form}
use Rattle.keyed_requests.specs.declared.request.Quotes.{Quotes}
use Rattle.keyed_requests.specs.declared.request.Quotes.TheVariants as quotes
use Rattle.keyed_requests.specs.declared.request.Reading.{Reading}
use Rattle.keyed_columns.specs.Going.{GoneSaid}
use Rattle.keyed_columns.specs.Headers.{HeaderOf}
use Rattle.keyed_columns.specs.Spelled.{SpelledFirst}
use Rattle.keyed_columns.specs.declared.content.Content.{Content}
use Rattle.keyed_files.specs.Gone.{KnowsGone}
use Rattle.keyed_files.specs.Lines.{Begins, checked_left, lines_left, where_strict}
use Rattle.keyed_files.specs.Reading.{GivesRecord, HasGivenIn, HeadedBy, IsOpen, next_of, text_lined, text_read}
use Rattle.keyed_files.specs.declared.by_line.ByLine.{ByLine}
use Rattle.keyed_files.specs.declared.checked.Checked.{Checked}
use Rattle.keyed_files.specs.declared.source.Next.TheVariants as next
use Rattle.keyed_files.specs.declared.source.Source.{Source}

-- a reader of lines of which nothing is read has all that its reader has
pub begun-left : {R : Type 0} (rem : R → Option (List ℕ)) (inner : R) (reading : Reading) (lines : ByLine R) → Begins inner reading lines
    → lines_left rem lines ≡ (if is_none (option_map (λ comment. comment.byte) reading.comment) then rem inner else None)
begun-left rem inner reading lines h = rw (h.comment, h.goes_on, h.none, h.under, prepend_known-nil (rem inner)) refl

pub kept-text : (comment : Option Comment) (skipped : ℕ) (known x y : Option (List ℕ))
    → x ≡ (if is_none (option_map (λ comment. comment.byte) comment) then known else None) → (skipped ≡ 0 → Keeps x y)
    → Keeps (if is_none comment && (skipped == 0) then known else None) y
kept-text None skipped known x y e h = elim (cases_Bool (skipped == 0)) [
  | inl none ↦ rw none (subst (λ x. Keeps x y) e (h (eqb-true skipped 0 none)))
  | inr some ↦ rw some tt
]
kept-text (Some c) skipped known x y e h = tt

some-kept : (P : List ℕ → Type 0) (a b : Option (List ℕ)) → Keeps a b → IfSome b P → IfSome a P
some-kept P None b k h = tt
some-kept P (Some x) None k h = absurd k
some-kept P (Some x) (Some y) k h = subst P k h

-- what is known where quotes have to be in order is kept with what is known
pub strict-kept : (how : Quotes) (a b : Option (List ℕ)) → Keeps a b → Keeps (where_strict how a) (where_strict how b)
strict-kept quotes.Strict a b k = k
strict-kept quotes.Lenient a b k = tt

-- a reader of the rows of what is read of a file
pub begun-rows : {R : Type 0} (rem : R → Option (List ℕ)) (form : Form) (known left : Option (List ℕ)) (rows : RowReader (Checked R))
    → Keeps (text_lined form known) left
    → IfSome (where_strict form.reading.quotes left) (λ text. HasRead (delimiter_of form) (comment_of form) (checked_left rem) text [] rows)
    → IfSome (text_read form known) (λ text. HasRead (delimiter_of form) (comment_of form) (checked_left rem) text [] rows)
begun-rows rem form known left rows k h =
    some-kept (λ text. HasRead (delimiter_of form) (comment_of form) (checked_left rem) text [] rows) (text_read form known)
    (where_strict form.reading.quotes left) (strict-kept form.reading.quotes (text_lined form known) left k) h

-- a step of a source that reads on
pub gives-next : {R : Type 0} (rem : R → Option (List ℕ)) (a b : Source R) (found : Bool) → a.next ≡ next.Read → (found ≡ true → b.next ≡ next.Read)
    → GivesRow (checked_left rem) a.reader b.reader found (fields_of b.last) → GivesRecord rem a b found
gives-next rem a b true was stays reads = λ d c text rows h.
    subst (HasGivenIn d c rem text (rows ++ (fields_of b.last ∷ [])) b) (sym (stays refl)) (reads d c text rows (subst (HasGivenIn d c rem text rows a) was h))
gives-next rem a b false was stays reads = λ d c text rows h. reads d c text rows (subst (HasGivenIn d c rem text rows a) was h)

-- a source that gives the record that waits
pub gives-kept : {R : Type 0} (rem : R → Option (List ℕ)) (a b : Source R) → a.next ≡ next.Kept → b.next ≡ next.Read → b.reader ≡ a.reader → b.last ≡ a.last
    → GivesRecord rem a b true
gives-kept rem a b was is reader last = λ d c text rows h.
    subst (HasGivenIn d c rem text (rows ++ (fields_of b.last ∷ [])) b) (sym is) (rw (reader, last) (subst (HasGivenIn d c rem text rows a) was h))

-- a source that has no more
pub gives-none : {R : Type 0} (rem : R → Option (List ℕ)) (a b : Source R) → a.next ≡ next.Ended → GivesRecord rem a b false
gives-none rem a b was = λ d c text rows h. subst (HasGivenIn d c rem text rows a) was h

some-same : {A : Type 0} {x y : A} → Some x ≡ Some y → x ≡ y
some-same e = cc e

-- a record that a reader has given first is the first one of the text
first-same : (cfg : Config) (s s2 t2 : State) (xs ys zs : List ℕ) (row : List (List ℕ)) (rows : List (List (List ℕ)))
    → Reached cfg s xs (row ∷ []) s2 ys → Reached cfg s xs rows t2 zs → next_record cfg t2 [] [] zs ≡ None
    → (more : List (List (List ℕ))) × (rows ≡ row ∷ more)
unfolding Reached
first-same cfg s s2 t2 xs ys zs row [] h k none =
    let ended : next_record cfg s [] [] xs ≡ None = rw (k.0, k.1) none in
    absurd (cc (sym ended ∙ h.1))
first-same cfg s s2 t2 xs ys zs row (first ∷ more) h k none =
    let same : k.0 ≡ h.0 = some-same (sym k.1 ∙ h.1) in
    (more, ap (λ l. l ∷ more) (k.2 ∙ ap (λ (p : Read). p.0) same ∙ sym h.2))

first-read : {R : Type 0} (d : ℕ) (c : Option ℕ) (left : R → Option (List ℕ)) (text : List ℕ) (row : List (List ℕ)) (reader : RowReader R)
    → HasRead d c left text (row ∷ []) reader → (rows : List (List (List ℕ))) → AreRows d c text rows → (more : List (List (List ℕ))) × (rows ≡ row ∷ more)
first-read d c left text row reader h rows k =
    first-same (config_by d c) st.StartRecord (reader_state reader.reader) k.0 (strip_bom text) h.left k.1 row rows h.reached k.2 k.3

-- a source whose first record is read
module _ {R : Type 0} (rem : R → Option (List ℕ)) (form : Form) (kind : Content) (text : List ℕ) (old : RowReader (Checked R)) (source : Source R)
    (content : source.content ≡ kind) (begun : HasRead (delimiter_of form) (comment_of form) (checked_left rem) text [] old) where
  opened-if : (has_header has_first : Bool) → form.has_header ≡ has_header
      → GivesRow (checked_left rem) old source.reader has_first (fields_of source.last) → source.next ≡ next_of has_first has_header
      → HeaderOf has_header kind has_first (fields_of source.last) source.header.names → source.header.spelling.names ≡ source.header.names
      → SpelledFirst has_header has_first kind (fields_of source.last) source.header.spelling.spelled → IsOpen form kind rem text source.header.names source
  opened-if true false same reads is header named spelled =
      let none = reads _ _ text [] begun in
      record { content = content; first = []; header = rw same (none, header); given = rw is none; named = named; spelled = rw same spelled }
  opened-if false false same reads is header named spelled =
      let none = reads _ _ text [] begun in
      let headed : (records : List (List (List ℕ))) → AreRows (delimiter_of form) (comment_of form) text records → HeadedBy false kind records source.header.names =
      λ records all. subst (λ r. HeadedBy false kind r source.header.names) (rows-once _ _ text [] records none all) header in
      record { content = content; first = []; header = rw same headed; given = rw is none; named = named; spelled = rw same tt }
  opened-if true true same reads is header named spelled = record {
    content = content;
    first = fields_of source.last ∷ [];
    header = rw same header;
    given = rw is (reads _ _ text [] begun);
    named = named;
    spelled = rw same spelled;
  }
  opened-if false true same reads is header named spelled =
      let one = reads _ _ text [] begun in
      let headed : (records : List (List (List ℕ))) → AreRows (delimiter_of form) (comment_of form) text records → HeadedBy false kind records source.header.names =
      λ records all. let first = first-read _ _ _ text (fields_of source.last) source.reader one records all in
      subst (λ r. HeadedBy false kind r source.header.names) (sym first.1) header in
      record { content = content; first = []; header = rw same headed; given = rw is one; named = named; spelled = rw same tt }

  pub opened : (has_first : Bool) → GivesRow (checked_left rem) old source.reader has_first (fields_of source.last)
      → source.next ≡ next_of has_first form.has_header → HeaderOf form.has_header kind has_first (fields_of source.last) source.header.names
      → source.header.spelling.names ≡ source.header.names → SpelledFirst form.has_header has_first kind (fields_of source.last) source.header.spelling.spelled
      → IsOpen form kind rem text source.header.names source
  opened has_first reads is header named spelled = opened-if form.has_header has_first refl reads is header named spelled

-- the same of a text that is known or not
pub opened-known : {R : Type 0} (rem : R → Option (List ℕ)) (form : Form) (kind : Content) (known : Option (List ℕ)) (old : RowReader (Checked R))
    (source made : Source R) → source ≡ made → made.content ≡ kind
    → IfSome known (λ text. HasRead (delimiter_of form) (comment_of form) (checked_left rem) text [] old)
    → (has_first : Bool) → GivesRow (checked_left rem) old made.reader has_first (fields_of made.last)
    → made.next ≡ next_of has_first form.has_header → HeaderOf form.has_header kind has_first (fields_of made.last) made.header.names
    → made.header.spelling.names ≡ made.header.names → SpelledFirst form.has_header has_first kind (fields_of made.last) made.header.spelling.spelled
    → IfSome known (λ text. IsOpen form kind rem text source.header.names source)
opened-known rem form kind None old source made same content begun has_first reads is header named spelled = tt
opened-known rem form kind (Some text) old source made same content begun has_first reads is header named spelled =
    rw same (opened rem form kind text old made content begun has_first reads is header named spelled)

-- the columns that go, of a source of changes whose first record is read
module _ {R : Type 0} (rem : R → Option (List ℕ)) (form : Form) (text : List ℕ) (old : RowReader (Checked R)) (source : Source R)
    (begun : HasRead (delimiter_of form) (comment_of form) (checked_left rem) text [] old) where
  gone-if : (has_header has_first : Bool) → form.has_header ≡ has_header
      → GivesRow (checked_left rem) old source.reader has_first (fields_of source.last) → source.next ≡ next_of has_first has_header
      → GoneSaid has_first has_header (fields_of source.last) source.header.gone source.header.came → KnowsGone form rem text source
  gone-if true false same reads is said =
      let none = reads _ _ text [] begun in
      record { first = []; header = rw same (none, said); given = rw is none }
  gone-if false false same reads is said = record { first = []; header = rw same tt; given = rw is (reads _ _ text [] begun) }
  gone-if true true same reads is said = record { first = fields_of source.last ∷ []; header = rw same said; given = rw is (reads _ _ text [] begun) }
  gone-if false true same reads is said = record { first = []; header = rw same tt; given = rw is (reads _ _ text [] begun) }

pub gone-known : {R : Type 0} (rem : R → Option (List ℕ)) (form : Form) (known : Option (List ℕ)) (old : RowReader (Checked R)) (source made : Source R) → source ≡ made
    → IfSome known (λ text. HasRead (delimiter_of form) (comment_of form) (checked_left rem) text [] old)
    → (has_first : Bool) → GivesRow (checked_left rem) old made.reader has_first (fields_of made.last) → made.next ≡ next_of has_first form.has_header
    → GoneSaid has_first form.has_header (fields_of made.last) made.header.gone made.header.came → IfSome known (λ text. KnowsGone form rem text source)
gone-known rem form None old source made same begun has_first reads is said = tt
gone-known rem form (Some text) old source made same begun has_first reads is said =
    rw same (gone-if rem form text old made begun form.has_header has_first refl reads is said)

-- what holds of each error holds of one that is there
pub if-err : {T E : Type 0} (result : Result T E) (P : E → Type 0) → ((error : E) → P error) → IfErr result P
if-err (Ok value) P holds = tt
if-err (Err error) P holds = holds error

-- what holds of an error holds of the same one where it is returned
pub same-err : {T E : Type 0} (result : Result T E) (error : E) (P : E → Type 0) → IsErrAnd result (λ told. told ≡ error) → P error → IfErr result P
same-err (Ok value) error P same holds = tt
same-err (Err told) error P same holds = subst P (sym same) holds
