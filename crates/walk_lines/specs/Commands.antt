-- What a line may say: a command, whose words are those of the line.
use Rattle.std.specs.Prelude.{ℕ, List, [], ◌∷◌, ◌++◌, ◌≡◌, ◌≢◌, All, map, codes}
use Rattle.std.specs.Ordering.{nat_cmp}
use Rattle.std.specs.Cmp.Lexicographic.{slice_cmp}
use Rattle.std.specs.declared.cmp.Ordering.{Ordering}
use Rattle.eob_both.specs.declared.either_or_both.EitherOrBoth.{EitherOrBoth}
use Rattle.eob_both.specs.declared.either_or_both.EitherOrBoth.TheVariants.{Left, Both, Right}
use Rattle.eob_lists.specs.declared.drive.End.{End}
use Rattle.eob_lists.specs.declared.drive.End.TheVariants.{Front, Back}
use Rattle.eob_lists.specs.Join.{Rising}
use Rattle.line_words.specs.Names.{IsName}
use Rattle.line_words.specs.Words.{words}

-- an item: a name on the left, on the right, or one on each side
abbrev pub Named : Type 0
Named = EitherOrBoth (List ℕ) (List ℕ)

-- how an item is written
abbrev pub item_text : Named → List ℕ
item_text (Left w) = codes "l:" ++ w
item_text (Both v w) = codes "b:" ++ (v ++ (codes ":" ++ w))
item_text (Right w) = codes "r:" ++ w

-- its words are names
abbrev pub HasNames : Named → Type 0
HasNames (Left w) = IsName w
HasNames (Both v w) = IsName v × IsName w
HasNames (Right w) = IsName w

-- how the call of an end is written
abbrev pub end_letter : End → ℕ
end_letter Front = 102
end_letter Back = 98

-- a key of a table, with its value
abbrev pub Entry : Type 0
Entry = List ℕ × List ℕ

-- how it is written
abbrev pub entry_text : Entry → List ℕ
entry_text p = p.0 ++ (codes "=" ++ p.1)

-- its words are names
abbrev pub HasEntryNames : Entry → Type 0
HasEntryNames p = IsName p.0 × IsName p.1

-- the order of keys, by their bytes
abbrev pub bytes_cmp : List ℕ → List ℕ → Ordering
bytes_cmp x y = slice_cmp nat_cmp x y

-- the commands, with what they are called with
pub data Command : Type 0 where
  Collect : List Named → Command
  Walk : List Named → Command
  Normal : List Named → Command
  Ends : List End → List Named → Command
  Join : List Entry → List Entry → Command

-- the words of a command
abbrev pub command_words : Command → List (List ℕ)
command_words (Collect items) = codes "collect" ∷ map item_text items
command_words (Walk items) = codes "walk" ∷ map item_text items
command_words (Normal items) = codes "normal" ∷ map item_text items
command_words (Ends ends items) = codes "ends" ∷ map end_letter ends ∷ map item_text items
command_words (Join p q) = codes "join" ∷ (map entry_text p ++ codes "/" ∷ map entry_text q)

-- its words are names, there is an end to be called, and the keys of its tables strictly increase
abbrev pub IsWellFormed : Command → Type 0
IsWellFormed (Collect items) = All HasNames items
IsWellFormed (Walk items) = All HasNames items
IsWellFormed (Normal items) = All HasNames items
IsWellFormed (Ends ends items) = (ends ≢ []) × All HasNames items
IsWellFormed (Join p q) = All HasEntryNames p × All HasEntryNames q × Rising bytes_cmp p × Rising bytes_cmp q

-- a line says a command
pub record Says (line : List ℕ) (command : Command) : Type 0 where
  pub words : words line ≡ command_words command
  pub formed : IsWellFormed command

-- a line that says none
abbrev pub IsBad : List ℕ → Type 0
IsBad line = (command : Command) → ¬ Says line command
