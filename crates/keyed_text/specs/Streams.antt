-- What a reader has given of a known text, and what a writer has written.
use Rattle.std.specs.Prelude.{◌≡◌, ◌≢◌, ◌==◌, ◌||◌, ◌&&◌, ◌^◌, ◌-◌, ℕ, List, [], ◌∷◌, ◌++◌, Bool, true, false, not, length, min, Option, Some}
use Rattle.std.specs.Io.KnownBytes.{Appends}
use Rattle.csv.specs.Reading.{Reached, Ready, reader_config, reader_state, reader_trim, source_of, strip_bom}
use Rattle.csv.specs.Writing.{fields_written, has_written, is_blank, row_body, text_written, writer_setup}
use Rattle.csv.specs.declared.parser.State.TheVariants as st
use Rattle.csv.specs.declared.reader.Trim.TheVariants as trim
use Rattle.csv.specs.declared.writer.QuoteStyle.TheVariants as style
use Rattle.csv.specs.declared.writer.WriterBuilder.{WriterBuilder}
use Rattle.keyed_text.specs.declared.row_reader.RowReader.{RowReader}
use Rattle.keyed_text.specs.declared.row_writer.RowWriter.{RowWriter}
use Rattle.keyed_text.specs.Texts.{AreRows, config_by, text_by}

-- a reader of a text has given these rows, and gives the next one at its next read
pub record HasRead {R : Type 0} (d : ℕ) (c : Option ℕ) (remaining : R → Option (List ℕ)) (text : List ℕ) (rows : List (List (List ℕ))) (reader : RowReader R) : Type 0 where
  pub trim : reader_trim reader.reader ≡ trim.None
  pub config : reader_config reader.reader ≡ config_by d c
  pub ready : Ready reader.reader
  pub left : List ℕ
  pub source : source_of remaining reader.reader ≡ Some left
  pub reached : Reached (config_by d c) st.StartRecord (strip_bom text) rows (reader_state reader.reader) left

-- the next step of a reader of rows: of each text of which it had given some, it gave the next one, or those were all
abbrev pub GivesRow : {R : Type 0} → (R → Option (List ℕ)) → RowReader R → RowReader R → Bool → List (List ℕ) → Type 0
GivesRow remaining old new true row = (d : ℕ) (c : Option ℕ) (text : List ℕ) (rows : List (List (List ℕ)))
    → HasRead d c remaining text rows old → HasRead d c remaining text (rows ++ (row ∷ [])) new
GivesRow remaining old new false row = (d : ℕ) (c : Option ℕ) (text : List ℕ) (rows : List (List (List ℕ)))
    → HasRead d c remaining text rows old → AreRows d c text rows

-- how many cells a row has, as far as a machine counts
abbrev pub counted : List (List ℕ) → ℕ
counted cells = min (length cells) (2 ^ 64 - 1)

-- a writer over bytes that were there writes as this one says, which quotes no cell for what it says as a number; it has written these rows
-- after them, and then these cells of a row that is not ended
pub record HasWritten {W : Type 0} (by : WriterBuilder) (contents : W → Option (List ℕ)) (there : Option (List ℕ)) (rows : List (List (List ℕ))) (cells : List (List ℕ)) (writer : RowWriter W) : Type 0 where
  pub setup : writer_setup writer.writer ≡ by
  pub quotes : by.style ≢ style.NonNumeric
  pub fields : fields_written writer.writer ≡ counted cells
  pub blank : is_blank by cells ≡ (not (has_written writer.writer) && ((length cells == 0) || (length cells == 1)))
  pub bytes : Appends there (text_written contents writer.writer) (text_by by rows ++ row_body by cells)

-- the same where it has written no row
abbrev pub HasNoRow : {W : Type 0} → WriterBuilder → (W → Option (List ℕ)) → Option (List ℕ) → RowWriter W → Type 0
HasNoRow by contents there writer = HasWritten by contents there [] [] writer

module _ {W : Type 0} (contents : W → Option (List ℕ)) (old new : RowWriter W) where
  -- whatever was written, these cells are put after it
  abbrev pub PutsCells : List (List ℕ) → Type 0
  PutsCells more = (by : WriterBuilder) (there : Option (List ℕ)) (rows : List (List (List ℕ))) (cells : List (List ℕ))
      → HasWritten by contents there rows cells old → HasWritten by contents there rows (cells ++ more) new

  -- whatever cells were put, they are a row now
  abbrev pub EndsRow : Type 0
  EndsRow = (by : WriterBuilder) (there : Option (List ℕ)) (rows : List (List (List ℕ))) (cells : List (List ℕ))
      → HasWritten by contents there rows cells old → HasWritten by contents there (rows ++ (cells ∷ [])) [] new

  -- whatever rows were written, these come after them
  abbrev pub PutsRows : List (List (List ℕ)) → Type 0
  PutsRows more = (by : WriterBuilder) (there : Option (List ℕ)) (rows : List (List (List ℕ)))
      → HasWritten by contents there rows [] old → HasWritten by contents there (rows ++ more) [] new
