-- Lines of cells as a person reads them: which cells stand in a line, and the text of lines that are lined up.
use Rattle.std.specs.Prelude.{◌≡◌, ℕ, Bool, List, [], ◌∷◌, ◌++◌, MatchBool, None, Option, Some, codes, filter, flat_map, length, map, replicate, string_bytes, zip}
use Rattle.std.specs.List.{AllZip}
use Rattle.keyed_faults.specs.ShownCells.{IsShownCell}
use Rattle.keyed_numbers.specs.Decimals.{same_cell}
use Rattle.keyed_numbers.specs.declared.alike.Alike.{Alike}
use Rattle.keyed_layout.specs.declared.lined_up.Colour.{Colour}
use Rattle.keyed_layout.specs.declared.lined_up.Colour.TheVariants as colour
use Rattle.keyed_layout.specs.declared.lined_up.Line.{Line}

-- the texts of the cells of a line
abbrev pub texts_of : Line → List (List ℕ)
texts_of line = map string_bytes line.cells.items

-- those cells whose flag is set
abbrev pub picked_cells : List Bool → List (List ℕ) → List (List ℕ)
picked_cells flags cells = map (λ z. z.0) (filter (λ z. z.1) (zip cells flags))

-- after the texts of a line stand others, and its colour stays
abbrev pub Appends : List (List ℕ) → Line → Line → Type 0
Appends texts old new = (texts_of new ≡ texts_of old ++ texts) × (new.colour ≡ old.colour)

-- these are cells as they are shown
abbrev pub AppendsShown : List (List ℕ) → Line → Line → Type 0
AppendsShown cells old new = (texts : List (List ℕ)) × AllZip IsShownCell cells texts × Appends texts old new

-- a cell among other text: as it is shown, and an empty one as two quotes
abbrev pub IsNamed : List ℕ → List ℕ → Type 0
IsNamed [] text = text ≡ 34 ∷ 34 ∷ []
IsNamed (byte ∷ cell) text = IsShownCell (byte ∷ cell) text

-- two cells with an arrow between them
abbrev pub AreNamedBoth : List ℕ → List ℕ → List ℕ → Type 0
AreNamedBoth old new text = (before : List ℕ) × (after : List ℕ) × IsNamed old before × IsNamed new after × (text ≡ before ++ (codes " -> " ++ after))

-- two cells as one: the new one where they are the same as the cells of their column are compared, and else both
abbrev pub AreBothShown : Alike × (List ℕ × List ℕ) → List ℕ → Type 0
AreBothShown cells text = MatchBool (same_cell cells.0 cells.1.0 cells.1.1) (IsShownCell cells.1.1 text) (AreNamedBoth cells.1.0 cells.1.1 text)

-- those pairs of cells whose flag is set, each with how the cells of its column are compared
abbrev pub picked_pairs : List Alike → List Bool → List (List ℕ) → List (List ℕ) → List (Alike × (List ℕ × List ℕ))
picked_pairs alikes flags old new = map (λ z. (z.1.0, z.0)) (filter (λ z. z.1.1) (zip (zip old new) (zip alikes flags)))

abbrev pub AppendsBoth : List (Alike × (List ℕ × List ℕ)) → Line → Line → Type 0
AppendsBoth pairs old new = (texts : List (List ℕ)) × AllZip AreBothShown pairs texts × Appends texts old new

-- a line of a word and these cells
abbrev pub IsLineOf : List ℕ → List (List ℕ) → Line → Type 0
IsLineOf word cells line = (texts : List (List ℕ)) × AllZip IsShownCell cells texts × (texts_of line ≡ word ∷ texts) × (line.colour ≡ None)

-- what makes a terminal show what follows in a colour, and what ends any colour
abbrev pub begin_of : Option Colour → List ℕ
begin_of None = []
begin_of (Some colour.Red) = 27 ∷ codes "[31m"
begin_of (Some colour.Green) = 27 ∷ codes "[32m"
begin_of (Some colour.Yellow) = 27 ∷ codes "[33m"

abbrev pub end_of : Option Colour → List ℕ
end_of None = []
end_of (Some colour) = 27 ∷ codes "[0m"

-- after a text stands another, of which this holds
abbrev pub Puts : (List ℕ → Type 0) → List ℕ → List ℕ → Type 0
Puts Holds old new = (text : List ℕ) × Holds text × (new ≡ old ++ text)

-- a cell after some number of spaces
abbrev pub IsSpaced : List ℕ → List ℕ → Type 0
IsSpaced cell text = (gap : ℕ) × (text ≡ replicate gap 32 ++ cell)

-- cells one after another, each after so many spaces
abbrev pub spaced : List ℕ → List (List ℕ) → List ℕ
spaced gaps cells = flat_map (λ z. replicate z.0 32 ++ z.1) (zip gaps cells)

-- all these cells one after another, each after some number of spaces
abbrev pub AreSpaced : List (List ℕ) → List ℕ → Type 0
AreSpaced cells text = (gaps : List ℕ) × (length gaps ≡ length cells) × (text ≡ spaced gaps cells)

-- the text of a line: all its cells in order, each after some number of spaces, in its colour, and then a line feed
abbrev pub IsTextOf : Line → List ℕ → Type 0
IsTextOf line text = (cells : List ℕ) × AreSpaced (texts_of line) cells
    × (text ≡ begin_of line.colour ++ (cells ++ (end_of line.colour ++ 10 ∷ [])))

-- the text of lines, each with a text of its own, one after another
abbrev pub AreLinedUp : List Line → List ℕ → Type 0
AreLinedUp lines text = (texts : List (List ℕ)) × AllZip IsTextOf lines texts × (text ≡ flat_map (λ line. line) texts)
