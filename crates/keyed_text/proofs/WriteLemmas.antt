-- Cells and rows written one after the other.
use Rattle.std.proofs.Common.{◌≡◌, ◌≢◌, ◌∙◌, ◌==◌, ◌+◌, ◌^◌, ◌-◌, ℕ, zero, suc, List, [], ◌∷◌, ◌++◌, length, Option, Some, None, Bool, true, false, refl, sym, ap, arith, append_assoc, length-append}
use Rattle.std.proofs.lemmas.List.{append-nil}
use Rattle.std.proofs.lemmas.Bool.{ne_eqb}
use Rattle.std.specs.Prelude.{◌&&◌, not, min, if◌then◌else◌}
use Rattle.std.specs.Io.KnownBytes.{Appends, Keeps, append_known}
use Rattle.csv.specs.Writing.{end_text, field_text, fields_written, has_written, is_blank, next_sep, row_body, row_text, tail_text, text_written, writer_pending, writer_setup, writer_under}
use Rattle.csv.specs.declared.writer.QuoteStyle.TheVariants as style
use Rattle.csv.specs.declared.writer.WriterBuilder.{WriterBuilder}
use Rattle.csv.proofs.WriteFacts.{appends-more, blank-more, row-more}
use Rattle.keyed_text.specs.declared.row_writer.RowWriter.{RowWriter}
use Rattle.keyed_text.specs.Streams.{EndsRow, HasWritten, PutsCells, PutsRows}
use Rattle.keyed_text.specs.Texts.{quote_style, text_by}
use Rattle.keyed_text.specs.declared.style.CellQuotes.{CellQuotes}
use Rattle.keyed_text.specs.declared.style.CellQuotes.TheVariants.{Everywhere, WhereNeeded}

-- a count that stops far away is none where there is none, and one where there is one
none-counted : (n : ℕ) → (min n (2 ^ 64 - 1) == 0) ≡ (n == 0)
none-counted zero = refl
none-counted (suc n) = ne_eqb (min (suc n) (2 ^ 64 - 1)) 0 (omega arith) ∙ sym (ne_eqb (suc n) 0 (omega arith))

one-counted : (n : ℕ) → (min n (2 ^ 64 - 1) == 1) ≡ (n == 1)
one-counted zero = refl
one-counted (suc zero) = refl
one-counted (suc (suc n)) = ne_eqb (min (suc (suc n)) (2 ^ 64 - 1)) 1 (omega arith) ∙ sym (ne_eqb (suc (suc n)) 1 (omega arith))

next-counted : (n : ℕ) → min (min n (2 ^ 64 - 1) + 1) (2 ^ 64 - 1) ≡ min (n + 1) (2 ^ 64 - 1)
next-counted n = omega arith

-- what stands before the next cell
sep-counted : (cfg : WriterBuilder) (n : ℕ) → next_sep cfg (min n (2 ^ 64 - 1)) ≡ next_sep cfg n
sep-counted cfg n = ap (λ b. if b then [] else cfg.delimiter ∷ []) (none-counted n)

-- the text of rows, and one more
pub text_by-and : (by : WriterBuilder) (rows : List (List (List ℕ))) (row : List (List ℕ))
    → text_by by (rows ++ (row ∷ [])) ≡ text_by by rows ++ row_text by row
text_by-and by [] row = append-nil (row_text by row)
text_by-and by (r ∷ rows) row =
    rw (text_by-and by rows row) (sym (append_assoc (row_text by r) (text_by by rows) (row_text by row)))

-- one more cell
pub has-cell : {W : Type 0} (contents : W → Option (List ℕ)) (by : WriterBuilder) (there : Option (List ℕ)) (rows : List (List (List ℕ))) (cells : List (List ℕ)) (cell : List ℕ) (a b : RowWriter W)
    → HasWritten by contents there rows cells a → writer_setup b.writer ≡ writer_setup a.writer → fields_written b.writer ≡ min (fields_written a.writer + 1) (2 ^ 64 - 1)
    → (has_written a.writer ≡ false → has_written b.writer ≡ not (length (field_text (writer_setup a.writer) cell) == 0)) → (has_written a.writer ≡ true → has_written b.writer ≡ true)
    → Appends (text_written contents a.writer) (text_written contents b.writer) (next_sep (writer_setup a.writer) (fields_written a.writer) ++ field_text (writer_setup a.writer) cell)
    → HasWritten by contents there rows (cells ++ (cell ∷ [])) b
has-cell contents by there rows cells cell a b h setup fields wrote stays bytes =
    let size = length-append cells (cell ∷ []) in record {
      setup = setup ∙ h.setup;
      quotes = h.quotes;
      fields = fields ∙ rw (h.fields, size) (next-counted (length cells));
      blank = rw size (blank-more by cells cell (has_written a.writer) (has_written b.writer) h.blank (rw h.setup at wrote) stays);
      bytes = rw (row-more by cells cell, ← append_assoc (text_by by rows) (row_body by cells) (next_sep by (length cells) ++ field_text by cell))
          (appends-more _ _ _ _ _ h.bytes (rw (h.setup, h.fields, sep-counted by (length cells)) at bytes));
    }

-- the row is ended
pub has-row : {W : Type 0} (contents : W → Option (List ℕ)) (by : WriterBuilder) (there : Option (List ℕ)) (rows : List (List (List ℕ))) (cells : List (List ℕ)) (a b : RowWriter W)
    → HasWritten by contents there rows cells a → writer_setup b.writer ≡ writer_setup a.writer → fields_written b.writer ≡ 0 → has_written b.writer ≡ false
    → Appends (text_written contents a.writer) (text_written contents b.writer) (tail_text (writer_setup a.writer) (has_written a.writer) (fields_written a.writer))
    → HasWritten by contents there (rows ++ (cells ∷ [])) [] b
unfolding is_blank
has-row contents by there rows cells a b h setup fields clean bytes =
    let tail : tail_text by (has_written a.writer) (fields_written a.writer)
    ≡ (if is_blank by cells then by.quote ∷ by.quote ∷ [] else []) ++ end_text by.terminator
    = rw (h.fields, h.blank, none-counted (length cells), one-counted (length cells)) refl in record {
      setup = setup ∙ h.setup;
      quotes = h.quotes;
      fields = fields;
      blank = rw clean refl;
      bytes = rw (
        append-nil (text_by by (rows ++ (cells ∷ []))),
        text_by-and by rows cells,
        ← append_assoc (text_by by rows) (row_body by cells) ((if is_blank by cells then by.quote ∷ by.quote ∷ [] else []) ++ end_text by.terminator),
      )
          (appends-more _ _ _ _ _ h.bytes (rw (h.setup, tail) at bytes));
    }

-- a row is written at once
pub has-whole : {W : Type 0} (contents : W → Option (List ℕ)) (by : WriterBuilder) (there : Option (List ℕ)) (rows : List (List (List ℕ))) (row : List (List ℕ)) (a b : RowWriter W)
    → HasWritten by contents there rows [] a → writer_setup b.writer ≡ writer_setup a.writer → fields_written b.writer ≡ 0 → has_written b.writer ≡ false
    → Appends (text_written contents a.writer) (text_written contents b.writer) (row_text (writer_setup a.writer) row)
    → HasWritten by contents there (rows ++ (row ∷ [])) [] b
unfolding is_blank
has-whole contents by there rows row a b h setup fields clean bytes = record {
  setup = setup ∙ h.setup;
  quotes = h.quotes;
  fields = fields;
  blank = rw clean refl;
  bytes = rw (append-nil (text_by by (rows ++ (row ∷ []))), text_by-and by rows row)
      (appends-more _ _ _ _ _ (rw (append-nil (text_by by rows)) at h.bytes) (rw h.setup at bytes));
}

not-and : (b : Bool) → true ≡ (not b && true) → b ≡ false
not-and false e = refl
not-and true e = e

-- a writer in whose row no cell was put has written nothing of it
pub none-written : {W : Type 0} (contents : W → Option (List ℕ)) (by : WriterBuilder) (there : Option (List ℕ)) (rows : List (List (List ℕ))) (a : RowWriter W)
    → HasWritten by contents there rows [] a → has_written a.writer ≡ false
unfolding is_blank
none-written contents by there rows a h = not-and (has_written a.writer) h.blank

appends-nil : (x : Option (List ℕ)) → Appends x (append_known x []) []
appends-nil None = tt
appends-nil (Some xs) = refl

appends-kept : (a b c : Option (List ℕ)) (xs : List ℕ) → Appends a b xs → Keeps b c → Appends a c xs
appends-kept None b c xs f g = tt
appends-kept (Some x) None c xs f g = absurd f
appends-kept (Some x) (Some y) None xs f g = absurd g
appends-kept (Some x) (Some y) (Some z) xs f g = g ∙ f

-- a writer that has written nothing
pub has-none : {W : Type 0} (contents : W → Option (List ℕ)) (by : WriterBuilder) (under : W) (a : RowWriter W) → writer_under a.writer ≡ under
    → writer_pending a.writer ≡ [] → writer_setup a.writer ≡ by → by.style ≢ style.NonNumeric → fields_written a.writer ≡ 0 → has_written a.writer ≡ false
    → HasWritten by contents (contents under) [] [] a
unfolding is_blank
has-none contents by under a w p s q f h = record {
  setup = s;
  quotes = q;
  fields = f;
  blank = rw h refl;
  bytes = rw (w, p) (appends-nil (contents under));
}

-- no style looks at what a cell says as a number
pub quotes-by-style : (quotes : CellQuotes) → quote_style quotes ≢ style.NonNumeric
quotes-by-style WhereNeeded e = cc e
quotes-by-style Everywhere e = cc e

-- what stands under a writer that is taken off
pub has-under : {W : Type 0} (contents : W → Option (List ℕ)) (by : WriterBuilder) (there : Option (List ℕ)) (rows : List (List (List ℕ))) (a : RowWriter W) (under : W)
    → HasWritten by contents there rows [] a → Keeps (text_written contents a.writer) (contents under) → Appends there (contents under) (text_by by rows)
has-under contents by there rows a under h k = appends-kept there _ _ _ (rw (append-nil (text_by by rows)) at h.bytes) k

-- steps one after the other
pub cells-none : {W : Type 0} (contents : W → Option (List ℕ)) (a : RowWriter W) → PutsCells contents a a []
cells-none contents a by there rows cells h = rw (append-nil cells) h

pub cells-more : {W : Type 0} (contents : W → Option (List ℕ)) (a b e : RowWriter W) (xs ys : List (List ℕ))
    → PutsCells contents a b xs → PutsCells contents b e ys → PutsCells contents a e (xs ++ ys)
cells-more contents a b e xs ys f g by there rows cells h = rw (← append_assoc cells xs ys) (g by there rows (cells ++ xs) (f by there rows cells h))

pub cells-row : {W : Type 0} (contents : W → Option (List ℕ)) (a b e : RowWriter W) (xs : List (List ℕ))
    → PutsCells contents a b xs → EndsRow contents b e → PutsRows contents a e (xs ∷ [])
cells-row contents a b e xs f g by there rows h = g by there rows xs (f by there rows [] h)

pub rows-none : {W : Type 0} (contents : W → Option (List ℕ)) (a : RowWriter W) → PutsRows contents a a []
rows-none contents a by there rows h = rw (append-nil rows) h

pub rows-more : {W : Type 0} (contents : W → Option (List ℕ)) (a b e : RowWriter W) (xs ys : List (List (List ℕ)))
    → PutsRows contents a b xs → PutsRows contents b e ys → PutsRows contents a e (xs ++ ys)
rows-more contents a b e xs ys f g by there rows h = rw (← append_assoc rows xs ys) (g by there (rows ++ xs) (f by there rows h))
