-- The rows of a text of CSV, and the text that is written of rows: with any byte between cells, and with lines passed over that begin
-- with another byte, where there is one.
use Rattle.std.specs.Prelude.{◌≡◌, ◌<◌, ◌==◌, ℕ, List, [], ◌∷◌, ◌++◌, ◌-◌, false, ⊤, Option, Some, None, Vec, if◌then◌else◌, length, map, take}
use Rattle.csv.specs.Reading.{AreRecords, default_config, strip_bom}
use Rattle.csv.specs.Writing.{default_writer, end_text, is_blank, row_body, row_text}
use Rattle.csv.specs.declared.parser.Config.{Config}
use Rattle.csv.specs.declared.parser.State.TheVariants as st
use Rattle.csv.specs.declared.parser.Terminator.{Terminator}
use Rattle.csv.specs.declared.parser.Terminator.TheVariants as term
use Rattle.csv.specs.declared.writer.QuoteStyle.{QuoteStyle}
use Rattle.csv.specs.declared.writer.QuoteStyle.TheVariants as style
use Rattle.csv.specs.declared.writer.WriterBuilder.{WriterBuilder}
use Rattle.keyed_text.specs.declared.style.CellQuotes.{CellQuotes}
use Rattle.keyed_text.specs.declared.style.CellQuotes.TheVariants.{Everywhere, WhereNeeded}
use Rattle.keyed_text.specs.declared.style.LineEnd.{LineEnd}
use Rattle.keyed_text.specs.declared.style.LineEnd.TheVariants.{CrLf, Lf}
use Rattle.keyed_text.specs.declared.style.Style.{Style}

-- how rows are read: the byte between cells, and the one that begins a line which is passed over
abbrev pub config_by : ℕ → Option ℕ → Config
config_by d c = record default_config { delimiter = d; comment = c }

-- and how they are written
abbrev pub writer_by : ℕ → Option ℕ → WriterBuilder
writer_by d c = record default_writer { delimiter = d; comment = c }

-- the same in a style: with quotes where they are needed or everywhere, and with LF or CR LF after each row
abbrev pub quote_style : CellQuotes → QuoteStyle
quote_style WhereNeeded = style.Necessary
quote_style Everywhere = style.Always

abbrev pub terminator_of : LineEnd → Terminator
terminator_of Lf = term.Any 10
terminator_of CrLf = term.CRLF

abbrev pub writer_in : Style → ℕ → Option ℕ → WriterBuilder
writer_in s d c = record (writer_by d c) { style = quote_style s.quotes; terminator = terminator_of s.line_end }

-- an ASCII byte that ends no row and quotes no cell (another one could make a byte order mark with the bytes of the first cell)
abbrev pub PartsCells : ℕ → Type 0
PartsCells d = ((d == 34) ≡ false) × ((d == 13) ≡ false) × ((d == 10) ≡ false) × (d < 128)

-- if lines with a byte at their start are passed over, that byte quotes no cell and parts none
abbrev pub BeginsComments : ℕ → Option ℕ → Type 0
BeginsComments d None = ⊤
BeginsComments d (Some b) = ((b == 34) ≡ false) × ((b == d) ≡ false)

-- these are all rows of a text, less a byte order mark at its start
abbrev pub AreRows : ℕ → Option ℕ → List ℕ → List (List (List ℕ)) → Type 0
AreRows d c text rows = AreRecords (config_by d c) st.StartRecord (strip_bom text) rows

-- a text reads as this header and these rows under it, and as nothing more
abbrev pub ReadsAs : ℕ → Option ℕ → List ℕ → List (List ℕ) → List (List (List ℕ)) → Type 0
ReadsAs d c text header rows = AreRows d c text (header ∷ rows)

-- the text of rows, one after the other, as a writer writes them
abbrev pub text_by : WriterBuilder → List (List (List ℕ)) → List ℕ
text_by w [] = []
text_by w (row ∷ rows) = row_text w row ++ text_by w rows

-- the text of a row without its end
abbrev pub open_row : WriterBuilder → List (List ℕ) → List ℕ
open_row w row = row_body w row ++ (if is_blank w row then w.quote ∷ w.quote ∷ [] else [])

-- the text of rows with quotes where they are needed, and LF after each row
abbrev pub rows_text : ℕ → Option ℕ → List (List (List ℕ)) → List ℕ
rows_text d c rows = text_by (writer_by d c) rows

-- the bytes that stand before the first row: a byte order mark, or none
abbrev pub mark_text : Style → List ℕ
mark_text s = if s.has_mark then 239 ∷ 187 ∷ 191 ∷ [] else []

-- a text of rows, less the end of the last one where a style has none
abbrev pub ended : Style → List ℕ → List ℕ
ended s text = if s.has_end then text else take (length text - length (end_text (terminator_of s.line_end))) text

-- a text of rows as a whole file in a style
abbrev pub finished : Style → List ℕ → List ℕ
finished s text = mark_text s ++ ended s text

-- the file of rows in a style
abbrev pub styled_text : Style → ℕ → Option ℕ → List (List (List ℕ)) → List ℕ
styled_text s d c rows = finished s (text_by (writer_in s d c) rows)

-- the bytes of each cell
abbrev pub bytes_of : {M : Type 0} → List (Vec ℕ M) → List (List ℕ)
bytes_of row = map (λ cell. cell.items) row

-- the bytes of each cell of a row
abbrev pub cells : {M N : Type 0} → Vec (Vec ℕ M) N → List (List ℕ)
cells row = bytes_of row.items
