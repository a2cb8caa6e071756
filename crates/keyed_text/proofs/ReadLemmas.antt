-- The rows that a reader has given, and one more.
use Rattle.std.proofs.Common.{◌≡◌, ◌∙◌, ℕ, List, [], Bool, Option, Some, None, refl, sym, inl, true, false}
use Rattle.std.specs.Prelude.{IfSome, option_map}
use Rattle.csv.specs.Reading.{ReadRecord, Reached, Ready, reader_config, reader_state, reader_trim, source_of, strip_bom, took_first}
use Rattle.csv.specs.declared.parser.State.TheVariants as st
use Rattle.csv.specs.declared.reader.Trim.TheVariants as trim
use Rattle.csv.proofs.ReadFacts.{rows-end, rows-more}
use Rattle.keyed_text.specs.declared.row_reader.RowReader.{RowReader}
use Rattle.keyed_text.specs.Streams.{GivesRow, HasRead}
use Rattle.keyed_text.specs.Texts.{config_by}

-- a read
pub gives-row : {R : Type 0} (rem : R → Option (List ℕ)) (a b : RowReader R) (found : Bool) (row : List (List ℕ))
    → (reader_trim a.reader ≡ trim.None → took_first b.reader ≡ true) → (reader_trim a.reader ≡ trim.None → Ready a.reader → ReadRecord rem a.reader b.reader found row) → GivesRow rem a b found row
gives-row rem a b true row first reads = λ d m text before h.
    let r = reads h.trim h.ready in
    let more = rows-more rem a.reader b.reader row (config_by d m) st.StartRecord (strip_bom text) h.left before h.config h.source h.reached r in
    record { trim = r.3 ∙ h.trim; config = r.2 ∙ h.config; ready = inl (first h.trim); left = more.0; source = more.1; reached = more.2 }
gives-row rem a b false row first reads = λ d m text before h.
    let r = reads h.trim h.ready in
    (_, h.left, h.reached, rows-end rem a.reader b.reader row (config_by d m) h.left h.config h.source r)

-- a reader at the start of a text
pub gave-none : {R : Type 0} (d : ℕ) (m : Option ℕ) (rem : R → Option (List ℕ)) (known : Option (List ℕ)) (a : RowReader R)
    → source_of rem a.reader ≡ option_map strip_bom known → reader_trim a.reader ≡ trim.None → reader_config a.reader ≡ config_by d m → Ready a.reader → reader_state a.reader ≡ st.StartRecord
    → IfSome known (λ text. HasRead d m rem text [] a)
unfolding Reached
gave-none d m rem None a s t f r e = tt
gave-none d m rem (Some text) a s t f r e = record { trim = t; config = f; ready = r; left = strip_bom text; source = s; reached = (sym e, refl) }
