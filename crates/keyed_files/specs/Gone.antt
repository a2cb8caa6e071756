-- The columns that go and that come by a text of changes.
use Rattle.std.specs.Prelude.{◌≡◌, ℕ, List, [], ◌∷◌, Bool, true, false, Option, IfSome, ⊤}
use Rattle.keyed_text.specs.Texts.{AreRows}
use Rattle.keyed_requests.specs.FormBytes.{comment_of, delimiter_of}
use Rattle.keyed_requests.specs.declared.request.Form.{Form}
use Rattle.keyed_columns.specs.Going.{names_going, names_coming}
use Rattle.keyed_columns.specs.declared.content.Content.{Content}
use Rattle.keyed_columns.specs.declared.content.Content.TheVariants.{Changes}
use Rattle.keyed_files.specs.Opening.{form_of, text_of_stream}
use Rattle.keyed_files.specs.Reading.{HasGiven}
use Rattle.keyed_files.specs.declared.opened.Opened.{Opened}
use Rattle.keyed_files.specs.declared.opened.Stream.{Stream}
use Rattle.keyed_requests.specs.declared.request.Direction.{Direction}
use Rattle.keyed_requests.specs.declared.request.Direction.TheVariants.{Backward, Forward}
use Rattle.keyed_files.specs.declared.source.Source.{Source}

-- the header is the first record of a text of changes, if there is to be one, and says which columns go and which come
abbrev pub IsGoneHeader : Form → List ℕ → List (List ℕ) → List (List ℕ) → Bool → List (List (List ℕ)) → Type 0
IsGoneHeader form text gone came true [] = AreRows (delimiter_of form) (comment_of form) text [] × ((gone ≡ []) × (came ≡ []))
IsGoneHeader form text gone came true (fields ∷ rest) = (gone ≡ names_going 1 fields) × (came ≡ names_coming 1 fields)
IsGoneHeader form text gone came false first = ⊤

-- a source of changes has read the header of a text, which says the columns that go and those that come
pub record KnowsGone {R : Type 0} (form : Form) (remaining : R → Option (List ℕ)) (text : List ℕ) (source : Source R) : Type 0 where
  pub first : List (List (List ℕ))
  pub header : IsGoneHeader form text source.header.gone source.header.came form.has_header first
  pub given : HasGiven (delimiter_of form) (comment_of form) remaining text first source

-- the columns that go are those that the header says, if there is one
abbrev pub GoneBy : Bool → List (List (List ℕ)) → List (List ℕ) → Type 0
GoneBy true [] gone = gone ≡ []
GoneBy true (fields ∷ records) gone = gone ≡ names_going 1 fields
GoneBy false records gone = ⊤

-- of a text of changes, the columns that go
abbrev pub GoneOf : Form → List ℕ → List (List ℕ) → Type 0
GoneOf form text gone = (records : List (List (List ℕ))) × AreRows (delimiter_of form) (comment_of form) text records × GoneBy form.has_header records gone

-- the same of those that come
abbrev pub CameBy : Bool → List (List (List ℕ)) → List (List ℕ) → Type 0
CameBy true [] came = came ≡ []
CameBy true (fields ∷ records) came = came ≡ names_coming 1 fields
CameBy false records came = ⊤

abbrev pub CameOf : Form → List ℕ → List (List ℕ) → Type 0
CameOf form text came = (records : List (List (List ℕ))) × AreRows (delimiter_of form) (comment_of form) text records × CameBy form.has_header records came

-- the columns that go where changes are made, or those where they are taken back: the ones that came
abbrev pub LeaveOf : Direction → Form → List ℕ → List (List ℕ) → Type 0
LeaveOf Forward form text leaving = GoneOf form text leaving
LeaveOf Backward form text leaving = CameOf form text leaving

-- the header of a source says which columns go in a direction
abbrev pub IsTurned : {R : Type 0} → Direction → Source R → Source R → Type 0
IsTurned Forward old new = new ≡ old
IsTurned Backward old new = new ≡ record old { header = record old.header { gone = old.header.came; came = old.header.gone } }

module _ {R : Type 0} (remaining : R → Option (List ℕ)) where
  -- the header of a stream of changes is read
  abbrev pub IsGoneRead : Form → Content → Stream R → Opened R → Type 0
  IsGoneRead form kind stream opened = kind ≡ Changes → IfSome (text_of_stream remaining form stream)
      (λ text. KnowsGone (form_of form stream) remaining text opened.source.value)
