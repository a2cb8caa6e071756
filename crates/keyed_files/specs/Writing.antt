-- What stands after calls that write rows, and the text that is made of them.
use Rattle.std.specs.Prelude.{◌≡◌, ◌==◌, ◌||◌, ℕ, List, [], ◌∷◌, ◌++◌, Bool, Option, Some, drop, take, length, if◌then◌else◌, unwrap_or, Vec}
use Rattle.std.specs.List.{position}
use Rattle.keyed_text.specs.Streams as stream
use Rattle.csv.specs.declared.writer.WriterBuilder.{WriterBuilder}
use Rattle.keyed_text.specs.Texts.{finished, text_by, writer_in}
use Rattle.keyed_faults.specs.Encodings.{is_marked}
use Rattle.keyed_requests.specs.FormBytes.{comment_of, delimiter_of}
use Rattle.keyed_requests.specs.declared.request.Form.{Form}
use Rattle.keyed_files.specs.declared.written.Written.{Written}

-- the bytes that are written to a vector
abbrev pub bytes_in : {M : Type 0} → Vec ℕ M → Option (List ℕ)
bytes_in bytes = Some bytes.items

-- how rows are written in a form
abbrev pub writer_of : Form → WriterBuilder
writer_of form = writer_in form.writing.style (delimiter_of form) (comment_of form)

-- what was written are these rows, in this form
abbrev pub Wrote : Form → List (List (List ℕ)) → Written → Type 0
Wrote form rows written = stream.HasWritten (writer_of form) bytes_in (Some []) rows [] written.rows

module _ (old new : Written) where
  -- whatever was written, these cells are put after it
  abbrev pub PutsCells : List (List ℕ) → Type 0
  PutsCells cells = stream.PutsCells bytes_in old.rows new.rows cells

  -- whatever cells were put, they are a row now
  abbrev pub EndsRow : Type 0
  EndsRow = stream.EndsRow bytes_in old.rows new.rows

  -- whatever rows were written, these come after them
  abbrev pub PutsRows : List (List (List ℕ)) → Type 0
  PutsRows rows = stream.PutsRows bytes_in old.rows new.rows rows

-- the text of rows in a form
abbrev pub text_of : Form → List (List (List ℕ)) → List ℕ
text_of form rows = text_by (writer_of form) rows

-- a text is that of the rows that were written, whatever they are
abbrev pub IsTextOf : Written → List ℕ → Type 0
IsTextOf written text = (form : Form) (rows : List (List (List ℕ))) → Wrote form rows written → text ≡ text_of form rows

-- whether a byte ends a cell that has no quote
abbrev pub ends_cell : ℕ → ℕ → Bool
ends_cell d b = (b == d) || (b == 13) || (b == 10)

-- where the first cell of a text ends that has no quote
abbrev pub end_of_cell : ℕ → List ℕ → ℕ
end_of_cell d text = unwrap_or (position (ends_cell d) text) (length text)

-- a text whose first cell is in quotes
abbrev pub quoted : ℕ → List ℕ → List ℕ
quoted d text = (34 ∷ take (end_of_cell d text) text) ++ (34 ∷ drop (end_of_cell d text) text)

-- a text that is read as it stands: its first cell is in quotes where it would not be
abbrev pub quoted_first : ℕ → List ℕ → List ℕ
quoted_first d text = if is_marked text then quoted d text else text

-- the text of rows in a form, as it is given out
abbrev pub quoted_text : Form → List (List (List ℕ)) → List ℕ
quoted_text form rows = quoted_first (delimiter_of form) (text_of form rows)

-- the file of rows in a form: their text, with the byte order mark of its style and with the end of the last row, or without
abbrev pub file_text : Form → List (List (List ℕ)) → List ℕ
file_text form rows = finished form.writing.style (quoted_text form rows)
