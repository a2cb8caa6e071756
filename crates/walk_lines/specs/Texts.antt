-- What a command is answered.
use Rattle.std.specs.Prelude.{ℕ, List, [], ◌∷◌, ◌++◌, ◌≡◌, ◌⊎◌, map, codes, Bool, true, false, Option, Some, None}
use Rattle.std.specs.List.{flat_map, join_with_byte}
use Rattle.std.specs.Fmt.{decimal}
use Rattle.eob_both.specs.declared.either_or_both.EitherOrBoth.{EitherOrBoth}
use Rattle.eob_both.specs.declared.either_or_both.EitherOrBoth.TheVariants.{Left, Both, Right}
use Rattle.eob_both.specs.Sides.{collected}
use Rattle.eob_lists.specs.declared.drive.End.{End}
use Rattle.eob_lists.specs.Answers.{answers, left_over}
use Rattle.eob_lists.specs.Join.{IsJoin}
use Rattle.eob_lists.specs.Normal.{IsNormal, regrouped}
use Rattle.walk_lines.specs.Commands.{Named, item_text, bytes_cmp, Command, Collect, Walk, Normal, Ends, Join, Says, IsBad}

-- words in brackets, parted by one space
abbrev pub list_text : List (List ℕ) → List ℕ
list_text ws = codes "[" ++ (join_with_byte 32 ws ++ codes "]")

-- the variant of a pair of lists, and its lists
abbrev pub sides_text : EitherOrBoth (List (List ℕ)) (List (List ℕ)) → List ℕ
sides_text (Left ps) = codes "Left " ++ list_text ps
sides_text (Both ps qs) = codes "Both " ++ (list_text ps ++ (codes " " ++ list_text qs))
sides_text (Right qs) = codes "Right " ++ list_text qs

-- words parted by one space, or a dash for none
abbrev pub spaced : List (List ℕ) → List ℕ
spaced [] = codes "-"
spaced (w ∷ ws) = join_with_byte 32 (w ∷ ws)

-- items, as a line has them
abbrev pub items_text : List Named → List ℕ
items_text items = spaced (map item_text items)

-- what the call of an end gave, a dot for nothing
abbrev pub given_text : Option Named → List ℕ
given_text None = codes "."
given_text (Some item) = item_text item

-- what calls of ends gave, and how many items are left
abbrev pub ends_text : List (Option Named) → ℕ → List ℕ
ends_text given left = flat_map (λ g. given_text g ++ codes " ") given ++ (codes "left " ++ decimal left)

-- what calls of the ends of items give, and how many items they leave
abbrev pub driven_text : List Named → List End → List ℕ
driven_text items calls = ends_text (answers items calls) (left_over items calls)

-- a key with what the two tables have under it
abbrev pub Row : Type 0
Row = List ℕ × Named

abbrev pub row_text : Row → List ℕ
row_text row = row.0 ++ (codes "=" ++ item_text row.1)

abbrev pub rows_text : List Row → List ℕ
rows_text rows = spaced (map row_text rows)

-- whether, in words
abbrev pub yes_or_no : Bool → List ℕ
yes_or_no true = codes "yes"
yes_or_no false = codes "no"

-- the answer to a command: its items collected into lists; regrouped; whether they are in normal form; what calls of the ends of the
-- regrouped items give; the full outer join of its tables
abbrev pub IsAnswer : Command → List ℕ → Type 0
IsAnswer (Collect items) text = text ≡ sides_text (collected items)
IsAnswer (Walk items) text = text ≡ items_text (regrouped items)
IsAnswer (Normal items) text = (IsNormal items × (text ≡ codes "yes")) ⊎ ((¬ IsNormal items) × (text ≡ codes "no"))
IsAnswer (Ends ends items) text = text ≡ driven_text (regrouped items) ends
IsAnswer (Join p q) text = (rows : List Row) × IsJoin bytes_cmp p q rows × (text ≡ rows_text rows)

-- the answer to a bad line with this number
abbrev pub bad_text : ℕ → List ℕ
bad_text number = codes "line " ++ (decimal number ++ codes ": bad")

-- a line with this number is answered by this text, and is bad or is not
unfoldable pub LineAnswer : ℕ → List ℕ → List ℕ → Bool → Type 0
LineAnswer number line text true = IsBad line × (text ≡ bad_text number)
LineAnswer number line text false = (command : Command) × Says line command × IsAnswer command text
