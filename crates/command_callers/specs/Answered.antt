-- What a caller knows of an answer that is written in the style of a table that is read.
use Rattle.std.specs.Prelude.{◌≡◌, ◌∷◌, [], ℕ, List, None, codes, false, true}
use Rattle.keyed_text.specs.Texts.{finished, text_by, writer_in}
use Rattle.keyed_text.specs.declared.style.CellQuotes.TheVariants.{Everywhere, WhereNeeded}
use Rattle.keyed_text.specs.declared.style.LineEnd.TheVariants.{CrLf, Lf}
use Rattle.keyed_text.specs.Spelling.{text_as}
use Rattle.keyed_text.specs.declared.spelling.RowSpelling.{RowSpelling}
use Rattle.keyed_text.specs.declared.style.Style.{Style}
use Rattle.keyed_requests.specs.FormBytes.{comment_of, delimiter_of}
use Rattle.keyed_requests.specs.declared.request.Form.{Form}
use Rattle.keyed_columns.specs.declared.columns.Columns.{Columns}
use Rattle.keyed_files.specs.SpelledFiles.{IsSpelledFile}
use Rattle.keyed_files.specs.Writing.{quoted_first}
use Rattle.keyed_jobs.specs.Answers.{TableChanges}
use Rattle.keyed_jobs.specs.ChangesRead.{SaysChanges}
use Rattle.keyed_jobs.specs.declared.answer.Answer.{Answer}
use Rattle.keyed_jobs.specs.declared.answer.Outcome.TheVariants.{Made}

-- what a text says that is read as changes, with commas between cells and with a header, by a key and these other columns: these changes, and
-- no others
abbrev pub SaysOnlyChanges : List ℕ → (key rest : List (List ℕ)) → TableChanges → Type 0
SaysOnlyChanges text key rest changes = (form : Form) (header : List (List ℕ)) (columns : Columns) (others : TableChanges)
    → delimiter_of form ≡ 44 → comment_of form ≡ None → form.has_header ≡ true → columns.key ≡ key → columns.rest ≡ rest
    → SaysChanges form false text header header columns others → others ≡ changes

-- this style, whether its last row has an end or none
abbrev pub IsButForEnd : Style → Style → Type 0
IsButForEnd named style = style ≡ record named { has_end = style.has_end }

-- an answer is a table in a style of which this is said, with what is said of its text in that style
pub record IsInStyle (IsStyled : Style → Type 0) (IsText : Style → List ℕ → Type 0) (answer : Answer) : Type 0 where
  pub style : Style
  pub styled : IsStyled style
  pub bytes : IsText style answer.bytes.items
  pub status : answer.status ≡ 0
  pub outcome : answer.outcome ≡ Made

-- the file of rows in a style, with commas between cells
abbrev pub file_in : List (List (List ℕ)) → Style → List ℕ
file_in rows style = finished style (quoted_first 44 (text_by (writer_in style 44 None) rows))

-- a text is that file, or that of the same rows each of which has a spelling of its own
abbrev pub IsSpelledIn : List (List (List ℕ)) → Style → List ℕ → Type 0
IsSpelledIn rows style text = IsSpelledFile style 44 None rows text

-- a text is the file of these rows in some style
abbrev pub IsFileOf : List (List (List ℕ)) → List ℕ → Type 0
IsFileOf rows text = (style : Style) × IsSpelledIn rows style text

-- quotes where they are needed, and LF after each row
abbrev pub plainly : Style
plainly = record { has_mark = false; quotes = WhereNeeded; line_end = Lf; has_end = true }

-- a byte order mark, quotes everywhere, and CR LF after each row
abbrev pub fully : Style
fully = record { has_mark = true; quotes = Everywhere; line_end = CrLf; has_end = true }

-- an answer is the file of these rows in this style, whose last row has an end or none, or with each row in a spelling of its own; with an end
-- of each row, and all of them in the style, it is this text
pub record IsTableInStyle (rows : List (List (List ℕ))) (named : Style) (text : List ℕ) (answer : Answer) : Type 0 where
  pub file : IsInStyle (IsButForEnd named) (IsSpelledIn rows) answer
  pub whole : file_in rows named ≡ text

-- an answer is a merged table with marks: this text in this style, whose last line has an end or none
pub record IsMarkedInStyle (named : Style) (text : List ℕ) (answer : Answer) : Type 0 where
  pub style : Style
  pub styled : IsButForEnd named style
  pub bytes : answer.bytes.items ≡ finished style text
  pub status : answer.status ≡ 1
  pub outcome : answer.outcome ≡ Made

-- the text of a header and a row with semicolons between cells, each in its spelling
abbrev pub spelled_rows : Style → (header row : RowSpelling) → List ℕ
spelled_rows style header row = text_as style 59 None ((header, codes "id" ∷ codes "name" ∷ []) ∷ (row, codes "2" ∷ codes "a;b" ∷ []) ∷ []) []
