-- The file of rows that are spelled one by one.
use Rattle.std.specs.Prelude.{◌≡◌, ◌⊎◌, ℕ, List, ◌++◌, Option, false}
use Rattle.keyed_text.specs.Spelling.{rows_as, rows_spelled, text_as}
use Rattle.keyed_text.specs.Texts.{finished, text_by, writer_in}
use Rattle.keyed_text.specs.declared.spelling.RowSpelling.{RowSpelling}
use Rattle.keyed_text.specs.declared.style.LineEnd.{LineEnd}
use Rattle.keyed_text.specs.declared.style.Style.{Style}
use Rattle.keyed_faults.specs.Encodings.{is_marked}
use Rattle.keyed_requests.specs.declared.request.Form.{Form}
use Rattle.keyed_requests.specs.FormBytes.{comment_of, delimiter_of}
use Rattle.keyed_files.specs.Writing.{quoted_first}

-- rows, each with its spelling
abbrev pub SpelledRows : Type 0
SpelledRows = List (RowSpelling × List (List ℕ))

-- what the file of rows is
module _ (style : Style) (d : ℕ) (c : Option ℕ) (rows : List (List (List ℕ))) (text : List ℕ) where
  -- each of them in some spelling, and blank lines after them
  abbrev pub IsSpelledEach : Type 0
  IsSpelledEach = (spelled : SpelledRows) × (after : List LineEnd) × (rows_spelled spelled ≡ rows)
      × (text ≡ finished style (quoted_first d (text_as style d c spelled after)))

  -- in a style, or with each row in a spelling of its own
  abbrev pub IsSpelledFile : Type 0
  IsSpelledFile = (text ≡ finished style (quoted_first d (text_by (writer_in style d c) rows))) ⊎ IsSpelledEach

module _ (form : Form) where
  -- these rows are put after a text, each in some spelling
  abbrev pub PutsSpelled : List ℕ → List ℕ → List (List (List ℕ)) → Type 0
  PutsSpelled old new rows = (spelled : SpelledRows) × (rows_spelled spelled ≡ rows)
      × (new ≡ old ++ rows_as form.writing.style (delimiter_of form) (comment_of form) spelled)

  -- the same of a form
  abbrev pub IsSpelledEachIn : List (List (List ℕ)) → List ℕ → Type 0
  IsSpelledEachIn rows text = IsSpelledEach form.writing.style (delimiter_of form) (comment_of form) rows text

  -- however these rows are spelled, their text begins as no other text than CSV does
  abbrev pub IsUnmarked : List (List (List ℕ)) → Type 0
  IsUnmarked rows = (spelled : SpelledRows) (after : List LineEnd) → rows_spelled spelled ≡ rows
      → is_marked (text_as form.writing.style (delimiter_of form) (comment_of form) spelled after) ≡ false

  abbrev pub IsFileIn : List (List (List ℕ)) → List ℕ → Type 0
  IsFileIn rows text = IsSpelledFile form.writing.style (delimiter_of form) (comment_of form) rows text
