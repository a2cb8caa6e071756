-- How the header of a table spells the names of its columns, and how the heading of a table that is made of it does.
use Rattle.std.specs.Prelude.{◌≡◌, ℕ, Bool, true, false, List, [], ◌∷◌, Option, Some, None, nat_eq, ⊤, if◌then◌else◌}
use Rattle.std.specs.Cmp.Lexicographic.{pointwise}
use Rattle.keyed_text.specs.Texts.{AreRows}
use Rattle.keyed_requests.specs.FormBytes.{comment_of, delimiter_of}
use Rattle.keyed_requests.specs.declared.request.Form.{Form}
use Rattle.keyed_columns.specs.Headers.{names_said}
use Rattle.keyed_columns.specs.Placed.{names_placed}
use Rattle.keyed_columns.specs.declared.columns.Columns.{Columns}
use Rattle.keyed_columns.specs.declared.header.Spelling.{Spelling}
use Rattle.keyed_columns.specs.declared.content.Content.{Content}

-- names are spelled as the header of records has them, if there is to be one
abbrev pub SpelledBy : Bool → Content → List (List (List ℕ)) → List (List ℕ) → Type 0
SpelledBy true kind [] spelled = spelled ≡ []
SpelledBy true kind (fields ∷ records) spelled = spelled ≡ names_said kind fields
SpelledBy false kind records spelled = ⊤

-- the same of a file that has a first record or none
abbrev pub SpelledFirst : Bool → Bool → Content → List (List ℕ) → List (List ℕ) → Type 0
SpelledFirst has_header false kind fields spelled = SpelledBy has_header kind [] spelled
SpelledFirst has_header true kind fields spelled = SpelledBy has_header kind (fields ∷ []) spelled

-- and of a text
abbrev pub SpelledOf : Form → Content → List ℕ → List (List ℕ) → Type 0
SpelledOf form kind text spelled = (records : List (List (List ℕ))) × AreRows (delimiter_of form) (comment_of form) text records
    × SpelledBy form.has_header kind records spelled

-- the names that a heading has in place of those that are written: those of a header as it spells them, where its columns, by the names that
-- tell them apart, are the ones that are written, in the same order
abbrev pub spelled_as : List (List ℕ) → List (List ℕ) → List (List ℕ) → Option (List (List ℕ))
spelled_as names spelled written = if pointwise (pointwise nat_eq) written names then Some spelled else None

-- the heading of columns is spelled as a header is that has these names
abbrev pub IsSpelledAs : List (List ℕ) → List (List ℕ) → Columns → Type 0
IsSpelledAs names spelled columns = columns.spelled ≡ spelled_as names spelled (names_placed columns)

-- columns whose heading is spelled so, and which are else the same
abbrev pub SpellsHeading : Spelling → Columns → Columns → Type 0
SpellsHeading spelling old new = new ≡ record old { spelled = spelled_as spelling.names spelling.spelled (names_placed old) }
