-- Where a text stands as far as quotes go, byte by byte, and which texts have their quotes in order.
use Rattle.std.specs.Prelude.{◌≡◌, ◌==◌, ◌-◌, ◌||◌, length, option_map, slice_get, unwrap_or, Bool, ℕ, List, [], ◌∷◌, Option, Some, None, if◌then◌else◌}
use Rattle.csv.specs.Machine.{is_byte}
use Rattle.memchr.specs.Find as find
use Rattle.memchr.specs.Find.{Nowhere, Passes}
use Rattle.keyed_text.specs.declared.quotes.Marks.{Marks}
use Rattle.keyed_text.specs.declared.quotes.Place.{Place}
use Rattle.keyed_text.specs.declared.quotes.Place.TheVariants as at

-- a byte that ends a line
abbrev pub ends_line : ℕ → Bool
ends_line b = (b == 13) || (b == 10)

-- the place after a byte of a cell that is not quoted
abbrev pub plain_place : Marks → ℕ → Place
plain_place m b = if b == m.delimiter then at.Cell else if ends_line b then at.Row else at.Bare

-- after the first byte of a cell
abbrev pub cell_place : Marks → ℕ → Place
cell_place m b = if b == 34 then at.Quoted else plain_place m b

-- after the first byte of a row
abbrev pub row_place : Marks → ℕ → Place
row_place m b = if is_byte m.comment b then at.Comment else cell_place m b

-- after a byte that follows a quote between quotes: none where the cell goes on
abbrev pub closed_place : Marks → ℕ → Option Place
closed_place m b = if b == 34 then Some at.Quoted else if b == m.delimiter then Some at.Cell else if ends_line b then Some at.Row else None

-- the place after one more byte
abbrev pub place_after : Marks → Place → ℕ → Option Place
place_after m at.Top b = Some (if b == 239 then at.FirstOfMark else row_place m b)
place_after m at.FirstOfMark b = Some (if b == 187 then at.SecondOfMark else plain_place m b)
place_after m at.SecondOfMark b = Some (if b == 191 then at.Row else plain_place m b)
place_after m at.Row b = Some (row_place m b)
place_after m at.Cell b = Some (cell_place m b)
place_after m at.Bare b = Some (plain_place m b)
place_after m at.Quoted b = Some (if b == 34 then at.Closed else at.Quoted)
place_after m at.Closed b = closed_place m b
place_after m at.Comment b = Some (if b == 10 then at.Row else at.Comment)

-- the place after more bytes, and what follows of it
abbrev pub then_place : Option Place → (Place → Option Place) → Option Place
then_place None more = None
then_place (Some p) more = more p

unfoldable pub place_behind : Marks → Place → List ℕ → Option Place
place_behind m p [] = Some p
place_behind m p (b ∷ rest) = then_place (place_after m p b) (λ q. place_behind m q rest)

-- no byte is a quote
abbrev pub IsQuoteFree : List ℕ → Type 0
IsQuoteFree bytes = Nowhere (Passes (find.is_byte 34) bytes) 0 (length bytes)

-- a place from which bytes with no quote among them lead to a place that the last of them decides
abbrev pub IsOutside : Marks → Place → Type 0
IsOutside m at.Row = m.comment ≡ None
IsOutside m at.Cell = m.comment ≡ None
IsOutside m at.Bare = m.comment ≡ None
IsOutside m at.Top = ⊥
IsOutside m at.FirstOfMark = ⊥
IsOutside m at.SecondOfMark = ⊥
IsOutside m at.Quoted = ⊥
IsOutside m at.Closed = ⊥
IsOutside m at.Comment = ⊥

-- that place
abbrev pub place_behind_plain : Marks → Place → List ℕ → Place
place_behind_plain m p bytes = unwrap_or (option_map (plain_place m) (slice_get bytes (length bytes - 1))) p
