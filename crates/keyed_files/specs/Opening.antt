-- A stream of rows that is opened: the text that it has, and the form in which it is read.
use Rattle.std.specs.Prelude.{◌≡◌, ℕ, List, [], ◌∷◌, Option, None, Some, IfSome, Result, Ok, Err, map, unwrap_or}
use Rattle.keyed_faults.specs.declared.fault.Reason.{Reason}
use Rattle.keyed_requests.specs.declared.request.Form.{Form}
use Rattle.keyed_requests.specs.declared.request.Settings.{Settings}
use Rattle.keyed_columns.specs.Names.{renamed}
use Rattle.keyed_columns.specs.declared.content.Content.{Content}
use Rattle.keyed_files.specs.Reading.{IsOpen, text_read}
use Rattle.keyed_files.specs.declared.opened.Opened.{Opened}
use Rattle.keyed_files.specs.declared.opened.Stream.{Stream}
use Rattle.keyed_files.specs.declared.opened.Two.{Two}
use Rattle.keyed_files.specs.declared.source.Source.{Source}

-- the form in which a stream is read: its own byte parts cells, where it has one
abbrev pub form_of : {R : Type 0} → Form → Stream R → Form
form_of form stream = record form { delimiter = unwrap_or stream.delimiter form.delimiter }

module _ {R : Type 0} (remaining : R → Option (List ℕ)) where
  -- the text that is read, where it is known
  abbrev pub text_in : Form → Result R Reason → Option (List ℕ)
  text_in form (Ok reader) = text_read form (remaining reader)
  text_in form (Err reason) = None

  -- the text of a stream, where it is known
  abbrev pub text_of_stream : Form → Stream R → Option (List ℕ)
  text_of_stream form stream = text_in (form_of form stream) stream.reader

  -- the header of a stream is read, and its rows come next
  abbrev pub IsOpened : Form → Content → Stream R → Opened R → Type 0
  IsOpened form kind stream opened = IfSome (text_of_stream form stream)
      (λ text. IsOpen (form_of form stream) kind remaining text opened.source.value.header.names opened.source.value)

-- columns of a source have got other names if a key is set, and nothing else is changed
abbrev pub IsRenamed : {R A : Type 0} → Option A → Source R → Source R → Type 0
IsRenamed None old new = new ≡ old
IsRenamed (Some key) old new = (first : List (List ℕ)) × (others : List (List ℕ))
    × (new ≡ record old { header = new.header }) × (new.header.names ≡ map (renamed first others) old.header.names)
    × (new.header.spelling ≡ old.header.spelling)

-- the same of the columns of a key, and then of those that are renamed
abbrev pub IsNamedAnew : {R : Type 0} → Settings → Source R → Source R → Type 0
IsNamedAnew {R} settings old new = (between : Source R) × IsRenamed settings.key old between × IsRenamed settings.renames between new

-- the headers of two tables, as their columns are named now
abbrev pub first_header : {R : Type 0} → Two R → List (List ℕ)
first_header two = two.first.source.value.header.names

abbrev pub next_header : {R : Type 0} → Two R → List (List ℕ)
next_header two = two.next.source.value.header.names

abbrev pub headers_of : {R : Type 0} → Two R → List (List (List ℕ))
headers_of two = first_header two ∷ next_header two ∷ []
