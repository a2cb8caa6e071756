-- The style of a text, as its bytes tell: whether it begins with a byte order mark, how its first line ends, and whether each cell of its
-- first row is in quotes.
use Rattle.std.specs.Prelude.{◌≡◌, ◌==◌, ◌||◌, ◌&&◌, ℕ, Bool, true, false, not, List, [], ◌∷◌, ◌++◌, Option, Some, None, drop, if◌then◌else◌, is_none, is_some, unwrap_or}
use Rattle.std.specs.Io.KnownBytes.{prepend_known}
use Rattle.csv.specs.Machine.{is_byte}
use Rattle.keyed_text.specs.Quotes.{closed_place, ends_line, place_after}
use Rattle.keyed_text.specs.declared.headed.Headed.{Headed}
use Rattle.keyed_text.specs.declared.quotes.Marks.{Marks}
use Rattle.keyed_text.specs.declared.quotes.Place.{Place}
use Rattle.keyed_text.specs.declared.quotes.Place.TheVariants as at
use Rattle.keyed_text.specs.declared.style.CellQuotes.{CellQuotes}
use Rattle.keyed_text.specs.declared.style.CellQuotes.TheVariants.{Everywhere, WhereNeeded}
use Rattle.keyed_text.specs.declared.style.LineEnd.{LineEnd}
use Rattle.keyed_text.specs.declared.style.LineEnd.TheVariants.{CrLf, Lf}
use Rattle.keyed_text.specs.declared.style.Style.{Style}
use Rattle.keyed_text.specs.declared.style_notes.Ending.{Ending}
use Rattle.keyed_text.specs.declared.style_notes.Ending.TheVariants as ending
use Rattle.keyed_text.specs.declared.style_notes.StyleNotes.{StyleNotes}

-- the place after one more byte; a line that is passed over ends as others do, and a cell that goes on behind its closing quote is in none
abbrev pub place_next : Marks → Place → ℕ → Place
place_next m at.Comment b = if ends_line b then at.Row else at.Comment
place_next m at.Top b = unwrap_or (place_after m at.Top b) at.Bare
place_next m at.FirstOfMark b = unwrap_or (place_after m at.FirstOfMark b) at.Bare
place_next m at.SecondOfMark b = unwrap_or (place_after m at.SecondOfMark b) at.Bare
place_next m at.Row b = unwrap_or (place_after m at.Row b) at.Bare
place_next m at.Cell b = unwrap_or (place_after m at.Cell b) at.Bare
place_next m at.Bare b = unwrap_or (place_after m at.Bare b) at.Bare
place_next m at.Quoted b = unwrap_or (place_after m at.Quoted b) at.Bare
place_next m at.Closed b = unwrap_or (closed_place m b) at.Bare

-- a byte order mark is whole with this byte
abbrev pub ends_mark : Place → ℕ → Bool
ends_mark at.SecondOfMark b = b == 191
ends_mark at.Top b = false
ends_mark at.FirstOfMark b = false
ends_mark at.Row b = false
ends_mark at.Cell b = false
ends_mark at.Bare b = false
ends_mark at.Quoted b = false
ends_mark at.Closed b = false
ends_mark at.Comment b = false

-- whether bytes at a place are the rest of a byte order mark
abbrev pub marked_from : Place → List ℕ → Bool
marked_from at.Top (a ∷ b ∷ c ∷ rest) = (a == 239) && ((b == 187) && (c == 191))
marked_from at.Top [] = false
marked_from at.Top (a ∷ []) = false
marked_from at.Top (a ∷ b ∷ []) = false
marked_from at.FirstOfMark (b ∷ c ∷ rest) = (b == 187) && (c == 191)
marked_from at.FirstOfMark [] = false
marked_from at.FirstOfMark (b ∷ []) = false
marked_from at.SecondOfMark (c ∷ rest) = c == 191
marked_from at.SecondOfMark [] = false
marked_from at.Row text = false
marked_from at.Cell text = false
marked_from at.Bare text = false
marked_from at.Quoted text = false
marked_from at.Closed text = false
marked_from at.Comment text = false

-- a line ends with this byte: outside of quotes, with CR or LF
abbrev pub is_end_at : Place → ℕ → Bool
is_end_at at.Quoted b = false
is_end_at at.Top b = ends_line b
is_end_at at.FirstOfMark b = ends_line b
is_end_at at.SecondOfMark b = ends_line b
is_end_at at.Row b = ends_line b
is_end_at at.Cell b = ends_line b
is_end_at at.Bare b = ends_line b
is_end_at at.Closed b = ends_line b
is_end_at at.Comment b = ends_line b

-- how a line ends whose CR comes before these bytes
abbrev pub end_behind_cr : List ℕ → LineEnd
end_behind_cr [] = Lf
end_behind_cr (b ∷ rest) = if b == 10 then CrLf else Lf

-- how the first line ends that ends from a place on: with CR LF, or not
unfoldable pub line_end_from : Marks → Place → List ℕ → LineEnd
line_end_from m p [] = Lf
line_end_from m p (b ∷ rest) = if is_end_at p b then (if b == 13 then end_behind_cr rest else Lf) else line_end_from m (place_next m p b) rest

-- a row ends with this byte whose last cell is in quotes
abbrev pub ends_quoted : Place → ℕ → Bool
ends_quoted at.Closed b = ends_line b
ends_quoted at.Top b = false
ends_quoted at.FirstOfMark b = false
ends_quoted at.SecondOfMark b = false
ends_quoted at.Row b = false
ends_quoted at.Cell b = false
ends_quoted at.Bare b = false
ends_quoted at.Quoted b = false
ends_quoted at.Comment b = false

-- a row begins with this byte whose first cell is in no quotes
abbrev pub begins_bare : Marks → ℕ → Bool
begins_bare m b = not ((b == 34) || ends_line b || is_byte m.comment b)

-- a cell of a row is in no quotes, as this byte tells
abbrev pub shows_bare : Marks → Place → ℕ → Bool
shows_bare m at.Top b = not (b == 239) && begins_bare m b
shows_bare m at.FirstOfMark b = not (b == 187)
shows_bare m at.SecondOfMark b = not (b == 191)
shows_bare m at.Row b = begins_bare m b
shows_bare m at.Cell b = not (b == 34)
shows_bare m at.Bare b = true
shows_bare m at.Quoted b = false
shows_bare m at.Closed b = is_none (closed_place m b)
shows_bare m at.Comment b = false

-- a text ends here behind the closing quote of a cell
abbrev pub is_quoted_at : Place → Bool
is_quoted_at at.Closed = true
is_quoted_at at.Quoted = false
is_quoted_at at.Top = false
is_quoted_at at.FirstOfMark = false
is_quoted_at at.SecondOfMark = false
is_quoted_at at.Row = false
is_quoted_at at.Cell = false
is_quoted_at at.Bare = false
is_quoted_at at.Comment = false

-- whether each cell of the first row from a place on is in quotes
unfoldable pub quoted_from : Marks → Place → List ℕ → Bool
quoted_from m p [] = is_quoted_at p
quoted_from m p (b ∷ rest) = if ends_quoted p b then true else if shows_bare m p b then false else quoted_from m (place_next m p b) rest

abbrev pub quotes_by : Bool → CellQuotes
quotes_by quoted = if quoted then Everywhere else WhereNeeded

-- the style of a text whose last row has an end or none
abbrev pub style_of : Marks → List ℕ → Bool → Style
style_of m text has_end = record {
  has_mark = marked_from at.Top text;
  quotes = quotes_by (quoted_from m at.Top text);
  line_end = line_end_from m at.Top text;
  has_end = has_end;
}

-- how the first line ends, where some of its bytes are noted and these come next
abbrev pub line_end_with : Marks → Ending → Place → List ℕ → LineEnd
line_end_with m ending.Open p rest = line_end_from m p rest
line_end_with m ending.AfterCr p rest = end_behind_cr rest
line_end_with m (ending.Ended line_end) p rest = line_end

-- the style of a text of which some bytes are noted, where these come next and its last row has an end
abbrev pub style_with : StyleNotes → List ℕ → Style
style_with n rest = record {
  has_mark = n.has_mark || marked_from n.place rest;
  quotes = quotes_by (unwrap_or n.quoted (quoted_from n.marks n.place rest));
  line_end = line_end_with n.marks n.ending n.place rest;
  has_end = true;
}

-- what is noted of the end of the first line after one more byte
abbrev pub ending_after : Ending → Place → ℕ → Ending
ending_after ending.Open p b = if is_end_at p b then (if b == 13 then ending.AfterCr else ending.Ended Lf) else ending.Open
ending_after ending.AfterCr p b = ending.Ended (if b == 10 then CrLf else Lf)
ending_after (ending.Ended line_end) p b = ending.Ended line_end

-- and of the quotes of the first row
abbrev pub quoted_after : Marks → Option Bool → Place → ℕ → Option Bool
quoted_after m (Some quoted) p b = Some quoted
quoted_after m None p b = if ends_quoted p b then Some true else if shows_bare m p b then Some false else None

-- one more byte is noted
abbrev pub with_byte : StyleNotes → ℕ → StyleNotes
with_byte n b = record n {
  place = place_next n.marks n.place b;
  has_mark = n.has_mark || ends_mark n.place b;
  ending = ending_after n.ending n.place b;
  quoted = quoted_after n.marks n.quoted n.place b;
}

-- bytes of a text are noted after those before them; where lines are passed over, no clause says what is noted
pub record NotesMore (old new : StyleNotes) (bytes : List ℕ) : Type 0 where
  pub skipped : new.skipped ≡ 0
  pub style : (rest : List ℕ) → style_with new rest ≡ style_with old (bytes ++ rest)

-- what a reader has left whose first bytes were read before, where that is known
abbrev pub headed_left : {R : Type 0} → (R → Option (List ℕ)) → Headed R → Option (List ℕ)
headed_left remaining headed = if headed.is_ended then Some (drop headed.passed headed.head.items)
    else prepend_known (drop headed.passed headed.head.items) (remaining headed.reader)
