-- What the answer to a line says, before it is written.
use Rattle.std.specs.Prelude.{ℕ, List, [], ◌∷◌, ◌++◌, ◌≡◌, ◌↔◌, ◌==◌, if◌then◌else◌, IsTrue, map, codes, Vec, Option, MatchOption, All}
use Rattle.std.specs.Borrow.{Bor}
use Rattle.eob_both.specs.declared.either_or_both.EitherOrBoth.{EitherOrBoth}
use Rattle.eob_both.specs.declared.either_or_both.EitherOrBoth.TheVariants.{Left, Both, Right}
use Rattle.eob_both.specs.Places.{map_places}
use Rattle.eob_both.specs.Aligned.{aligned}
use Rattle.eob_both.specs.Sides.{collected}
use Rattle.eob_lists.specs.declared.drive.End.{End}
use Rattle.eob_lists.specs.declared.drive.End.TheVariants.{Front, Back}
use Rattle.eob_lists.specs.Join.{IsJoin}
use Rattle.eob_lists.specs.Normal.{IsNormal, regrouped}
use Rattle.line_words.specs.Words.{words}
use Rattle.walk_lines.specs.declared.line.Name.{Name}
use Rattle.walk_lines.specs.declared.line.Name.TheVariants as name
use Rattle.walk_lines.specs.declared.line.Answer.{Answer}
use Rattle.walk_lines.specs.declared.line.Answer.TheVariants as answer
use Rattle.walk_lines.specs.Commands.{Named, Entry, Command, Collect, Walk, Normal, Ends, Join, item_text, entry_text, end_letter, bytes_cmp, HasNames, HasEntryNames, IsWellFormed, Says}
use Rattle.walk_lines.specs.Texts.{Row, driven_text, items_text, rows_text, sides_text, yes_or_no}

-- the word that names a command
abbrev pub name_text : Name → List ℕ
name_text name.Collect = codes "collect"
name_text name.Walk = codes "walk"
name_text name.Normal = codes "normal"
name_text name.Ends = codes "ends"
name_text name.Join = codes "join"

abbrev pub name_of : Command → Name
name_of (Collect items) = name.Collect
name_of (Walk items) = name.Walk
name_of (Normal items) = name.Normal
name_of (Ends ends items) = name.Ends
name_of (Join p q) = name.Join

-- the words after it
abbrev pub words_behind : Command → List (List ℕ)
words_behind (Collect items) = map item_text items
words_behind (Walk items) = map item_text items
words_behind (Normal items) = map item_text items
words_behind (Ends ends items) = map end_letter ends ∷ map item_text items
words_behind (Join p q) = map entry_text p ++ codes "/" ∷ map entry_text q

-- after the word that names it, bytes say a command
pub record SaysBehind (named : Name) (bytes : List ℕ) (command : Command) : Type 0 where
  pub name : name_of command ≡ named
  pub words : words bytes ≡ words_behind command
  pub formed : IsWellFormed command

-- bytes say these items: their words are the items as they are written
pub record SaysItems (bytes : List ℕ) (items : List Named) : Type 0 where
  pub words : words bytes ≡ map item_text items
  pub names : All HasNames items

-- bytes that say no items
abbrev pub SaysNoItems : List ℕ → Type 0
SaysNoItems bytes = (items : List Named) → ¬ SaysItems bytes items

-- words say these items, and then come the others
pub record SaysFirst (all : List (List ℕ)) (items : List Named) (others : List (List ℕ)) : Type 0 where
  pub words : all ≡ map item_text items ++ others
  pub names : All HasNames items

-- the first word of bytes says this item, and after it stand the words of the rest
abbrev pub HasItemAhead : List ℕ → Named → List ℕ → Type 0
HasItemAhead bytes item rest = (words bytes ≡ item_text item ∷ words rest) × HasNames item

-- the first word of bytes says no item
abbrev pub NoItemAhead : List ℕ → Type 0
NoItemAhead bytes = (item : Named) (ws : List (List ℕ)) → HasNames item → ¬ (words bytes ≡ item_text item ∷ ws)

-- an item of references, and what it shows
abbrev pub RefItem : Type 0
RefItem = EitherOrBoth (Bor (List ℕ)) (Bor (List ℕ))

abbrev pub shown : RefItem → Named
shown item = map_places (λ l. l.now) (λ r. r.now) item

abbrev pub shown_row : Bor (List ℕ) × RefItem → Row
shown_row row = (row.0.now, shown row.1)

-- the words that references show
abbrev pub shown_words : {M : Type 0} → Vec (Bor (List ℕ)) M → List (List ℕ)
shown_words v = map (λ w. w.now) v.items

abbrev pub shown_sides : {M : Type 0} → EitherOrBoth (Vec (Bor (List ℕ)) M) (Vec (Bor (List ℕ)) M) → EitherOrBoth (List (List ℕ)) (List (List ℕ))
shown_sides sides = map_places shown_words shown_words sides

-- the end that a letter calls
abbrev pub end_of : ℕ → End
end_of letter = if letter == 102 then Front else Back

-- two sides, aligned
abbrev pub side_by_side : {A B : Type 0} → EitherOrBoth (List A) (List B) → List (EitherOrBoth A B)
side_by_side (Left ps) = aligned ps []
side_by_side (Both ps qs) = aligned ps qs
side_by_side (Right qs) = aligned [] qs

-- this is what a command gives
abbrev pub Gives : {M : Type 0} → Command → Answer M → Type 0
Gives (Collect items) (answer.Collect sides) = shown_sides sides ≡ collected items
Gives (Walk items) (answer.Walk made) = map shown made.items ≡ regrouped items
Gives (Normal items) (answer.Normal is) = IsTrue is ↔ IsNormal items
Gives (Ends ends items) (answer.Ends sides calls) = (shown_sides sides ≡ collected items) × (calls.letters.now ≡ map end_letter ends)
Gives (Join p q) (answer.Join joined) = IsJoin bytes_cmp p q (map shown_row joined.items)
Gives command given = ⊥

-- the answer to what bytes say after the word that names a command, or none where they say no such command
abbrev pub AnswersBehind : {M : Type 0} → Name → List ℕ → Option (Answer M) → Type 0
AnswersBehind {M} named bytes given = MatchOption given ((command : Command) → ¬ SaysBehind named bytes command)
    (λ (a : Answer M). (command : Command) × SaysBehind named bytes command × Gives command a)

-- the answer to a line
abbrev pub AnswersLine : {M : Type 0} → List ℕ → Answer M → Type 0
AnswersLine line a = (command : Command) × Says line command × Gives command a

-- an entry of references, and what it shows
abbrev pub shown_entry : Bor (List ℕ) × Bor (List ℕ) → Entry
shown_entry entry = (entry.0.now, entry.1.now)

abbrev pub shown_table : List (Bor (List ℕ) × Bor (List ℕ)) → List Entry
shown_table table = map shown_entry table

-- words say a table, and then come the others
pub record SaysTable (all : List (List ℕ)) (table : List Entry) (others : List (List ℕ)) : Type 0 where
  pub words : all ≡ map entry_text table ++ others
  pub names : All HasEntryNames table

-- the first word of bytes says this entry, and after it stand the words of the rest
abbrev pub HasEntryAhead : List ℕ → Entry → List ℕ → Type 0
HasEntryAhead bytes entry rest = (words bytes ≡ entry_text entry ∷ words rest) × HasEntryNames entry

-- the first word of bytes says no entry
abbrev pub NoEntryAhead : List ℕ → Type 0
NoEntryAhead bytes = (entry : Entry) (ws : List (List ℕ)) → HasEntryNames entry → ¬ (words bytes ≡ entry_text entry ∷ ws)

-- the text of an answer
abbrev pub HasText : {M : Type 0} → Answer M → List ℕ → Type 0
HasText (answer.Collect sides) text = text ≡ sides_text (shown_sides sides)
HasText (answer.Walk made) text = text ≡ items_text (map shown made.items)
HasText (answer.Normal is) text = text ≡ yes_or_no is
HasText (answer.Ends sides calls) text = text ≡ driven_text (side_by_side (shown_sides sides)) (map end_of calls.letters.now)
HasText (answer.Join joined) text = text ≡ rows_text (map shown_row joined.items)

-- P of the text of an answer
abbrev pub ForText : {M : Type 0} → Answer M → (List ℕ → Type 0) → Type 0
ForText (answer.Collect sides) P = P (sides_text (shown_sides sides))
ForText (answer.Walk made) P = P (items_text (map shown made.items))
ForText (answer.Normal is) P = P (yes_or_no is)
ForText (answer.Ends sides calls) P = P (driven_text (side_by_side (shown_sides sides)) (map end_of calls.letters.now))
ForText (answer.Join joined) P = P (rows_text (map shown_row joined.items))
