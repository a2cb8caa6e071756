-- The file that says where tables were cut: its rows, its text, and what is read of it.
use Rattle.std.specs.Prelude.{◌≡◌, ◌-◌, ℕ, All, Bool, false, true, List, [], ◌∷◌, ◌++◌, Option, Some, None, IfSome, codes, decimal, filter, length, map, nat_eq, replicate, slice_get}
use Rattle.std.specs.List.{enumerate_from, flat_map, list_any, starts_with}
use Rattle.std.specs.List.Sorted.{IsSorted}
use Rattle.keyed_requests.specs.FormBytes.{delimiter_of}
use Rattle.keyed_requests.specs.declared.request.Form.{Form}
use Rattle.keyed_requests.specs.declared.request.Quotes.TheVariants as quotes
use Rattle.keyed_columns.specs.Names.{repeats}
use Rattle.keyed_columns.specs.declared.content.Content.TheVariants as content
use Rattle.keyed_files.specs.Reading.{HasGiven, IsOpen, key_in}
use Rattle.keyed_files.specs.declared.source.Places.{Places}
use Rattle.keyed_files.specs.declared.source.Source.{Source}
use Rattle.keyed_text.specs.Texts.{AreRows, rows_text, writer_by, writer_in}
use Rattle.keyed_cut.specs.Partitioned.{fitted, key_cmp}
use Rattle.keyed_cut.specs.declared.sinks.Count.{Count}
use Rattle.keyed_cut.specs.declared.sinks.Counts.{Counts}

-- the names of the columns that say how many rows and bytes a part has of a table
abbrev pub table_names : List ℕ → List (List ℕ)
table_names stem = (stem ++ codes ".rows") ∷ (stem ++ codes ".bytes") ∷ []

-- the name of the column that has a cell of the key at which a part begins
abbrev pub from_name : List ℕ → List ℕ
from_name name = codes "from." ++ name

-- whether a name begins as those of these columns do
abbrev pub is_from : List ℕ → Bool
is_from name = starts_with nat_eq name (codes "from.")

-- the header: the number of a part, what it has of each table, and the key that it begins at
abbrev pub listing_header : List (List ℕ) → List (List ℕ) → List (List ℕ)
listing_header stems key = (codes "part" ∷ flat_map table_names stems) ++ map from_name key

-- the number of a part, in three digits or more
abbrev pub part_number : ℕ → List ℕ
part_number part = replicate (3 - length (decimal part)) 48 ++ decimal part

-- how many rows and bytes are counted
abbrev pub amounts_of : Option Count → List (List ℕ)
amounts_of None = decimal 0 ∷ decimal 0 ∷ []
amounts_of (Some count) = decimal count.rows ∷ decimal count.bytes ∷ []

-- how many of them a part has of a table
abbrev pub amounts_in : ℕ → Counts → List (List ℕ)
amounts_in part counts = amounts_of (slice_get counts.parts.items part)

-- the row of a part: its number, what it has of each table, and so many cells of the key that it begins at
abbrev pub part_row : ℕ → List Counts → ℕ → List (List ℕ) → List (List ℕ)
part_row count tables part key = (part_number part ∷ flat_map (amounts_in part) tables) ++ fitted count key

-- the rows of parts, from one with this number on, by the keys that they begin at
abbrev pub part_rows : ℕ → List Counts → ℕ → List (List (List ℕ)) → List (List (List ℕ))
part_rows count tables first keys = map (λ part. part_row count tables part.0 part.1) (enumerate_from first keys)

-- all rows: the header, and one for each part, of which the first begins with any key, and so has empty cells
abbrev pub listing_rows : List (List ℕ) → List (List ℕ) → List Counts → List (List (List ℕ)) → List (List (List ℕ))
listing_rows stems key tables bounds = listing_header stems key ∷ part_rows (length key) tables 0 ([] ∷ bounds)

-- their text, with quotes where they are needed, and LF after each row
abbrev pub listing_text : List (List ℕ) → List (List ℕ) → List Counts → List (List (List ℕ)) → List ℕ
listing_text stems key tables bounds = rows_text 44 None (listing_rows stems key tables bounds)

-- the columns of tables are told from those of a key, of which no name begins as theirs do, and from one another
pub record AreStems (stems : List (List ℕ)) : Type 0 where
  pub apart : list_any is_from (flat_map table_names stems) ≡ false
  pub once : repeats [] (codes "part" ∷ flat_map table_names stems) ≡ false

-- what can be told from a listing: its columns, as the key has no name twice; what is counted of as many tables as there are; and the
-- boundaries, which are keys in order, each of as many cells as the key has names
pub record IsTold (stems key : List (List ℕ)) (tables : List Counts) (bounds : List (List (List ℕ))) : Type 0 where
  pub columns : AreStems stems
  pub once : repeats [] key ≡ false
  pub counted : length tables ≡ length stems
  pub cells : All (λ bound. length bound ≡ length key) bounds
  pub sorted : IsSorted key_cmp bounds

-- of a text that is known to have the rows of a listing, the boundaries are read
abbrev pub ReadsBounds : Option (List ℕ) → List (List (List ℕ)) → Type 0
ReadsBounds known found = IfSome known (λ text. (stems key : List (List ℕ)) (tables : List Counts) (bounds : List (List (List ℕ)))
    → AreRows 44 None text (listing_rows stems key tables bounds) → IsTold stems key tables bounds → found ≡ bounds)

-- a form in which a listing is written and read: with a comma between cells, a header, quotes where they are needed, LF after each row, and
-- no line that is passed over
pub record IsListingForm (form : Form) : Type 0 where
  pub comma : delimiter_of form ≡ 44
  pub header : form.has_header ≡ true
  pub comment : form.reading.comment ≡ None
  pub skipped : form.reading.skipped ≡ 0
  pub quotes : form.reading.quotes ≡ quotes.Strict
  pub style : writer_in form.writing.style 44 None ≡ writer_by 44 None

-- the header of a text is read in such a form
abbrev pub IsListingOpen : {R : Type 0} → (R → Option (List ℕ)) → List ℕ → Source R → Type 0
IsListingOpen remaining text source = (form : Form) × IsListingForm form × IsOpen form content.Rows remaining text source.header.names source

-- the text of a listing has its rows, and no others
abbrev pub ListingReadsLaw : Type 0
ListingReadsLaw = (stems key : List (List ℕ)) (tables : List Counts) (bounds : List (List (List ℕ)))
    → AreRows 44 None (listing_text stems key tables bounds) (listing_rows stems key tables bounds)

-- the names among others that begin as those of the key's columns do
abbrev pub from_names : List (List ℕ) → List (List ℕ)
from_names names = filter is_from names

module _ {R : Type 0} (remaining : R → Option (List ℕ)) (places : Places) where
  -- a source is read on: of each text of which it had given some records, it gave more, and their keys stand after others
  abbrev pub ReadsKeysOn : Source R → Source R → List (List (List ℕ)) → List (List (List ℕ)) → Type 0
  ReadsKeysOn source now old new = (d : ℕ) (c : Option ℕ) (text : List ℕ) (given : List (List (List ℕ)))
      → HasGiven d c remaining text given source
      → (records : List (List (List ℕ))) × HasGiven d c remaining text (given ++ records) now × (new ≡ old ++ map (key_in places) records)

  -- a source is read to the end: after the records that it had given, these come, and no more
  abbrev pub ReadsKeys : Source R → List (List (List ℕ)) → List (List (List ℕ)) → Type 0
  ReadsKeys source old new = (d : ℕ) (c : Option ℕ) (text : List ℕ) (given : List (List (List ℕ)))
      → HasGiven d c remaining text given source
      → (records : List (List (List ℕ))) × AreRows d c text (given ++ records) × (new ≡ old ++ map (key_in places) records)

  -- the same where one record comes first whose key is none of these
  abbrev pub ReadsLaterKeys : Source R → List (List (List ℕ)) → Type 0
  ReadsLaterKeys source keys = (d : ℕ) (c : Option ℕ) (text : List ℕ) (given : List (List (List ℕ)))
      → HasGiven d c remaining text given source
      → (first : List (List ℕ)) × (records : List (List (List ℕ))) × AreRows d c text (given ++ (first ∷ records)) × (keys ≡ map (key_in places) records)
