-- What a text says that names the columns of a key.
use Rattle.std.specs.Prelude.{◌≡◌, ◌==◌, ◌⊎◌, ℕ, Bool, false, not, true, List, [], ◌∷◌, ◌++◌, Option, None, Some, map, option_map, unwrap_or, if◌then◌else◌}
use Rattle.std.specs.Borrow.{Bor}
use Rattle.std.specs.List.{AllZip}
use Rattle.keyed_text.specs.Texts.{AreRows}
use Rattle.keyed_text.specs.declared.strict.Strict.{Strict}
use Rattle.keyed_columns.specs.ColumnNames.{distinct}
use Rattle.keyed_columns.specs.declared.key_record.TwoNames.{TwoNames}

-- a name as it is given: each `=` of it twice
unfoldable pub doubled : List ℕ → List ℕ
doubled [] = []
doubled (byte ∷ name) = if byte == 61 then 61 ∷ (61 ∷ doubled name) else byte ∷ doubled name

-- whether a name begins with `=`
abbrev pub begins_equal : List ℕ → Bool
begins_equal [] = false
begins_equal (byte ∷ name) = byte == 61

-- a cell gives the names of a column in the first table and in the others: one name, or two with an `=` between them, the second of which
-- begins with no `=`
abbrev pub GivesNames : List ℕ → List ℕ × List ℕ → Type 0
GivesNames cell names = ((cell ≡ doubled names.0) × (names.1 ≡ names.0))
    ⊎ ((cell ≡ doubled names.0 ++ (61 ∷ doubled names.1)) × (begins_equal names.1 ≡ false))

-- the cells of a text that is one record with commas between its cells: that of no byte has one cell, which is empty
abbrev pub IsRecord : List ℕ → List (List ℕ) → Type 0
IsRecord [] cells = cells ≡ [] ∷ []
IsRecord (byte ∷ text) cells = AreRows 44 None (byte ∷ text) (cells ∷ [])

-- names that cells give, of columns in the first table and in the others
pub record GiveNames (cells first others : List (List ℕ)) : Type 0 where
  pub names : List (List ℕ × List ℕ)
  pub given : AllZip GivesNames cells names
  pub are_first : first ≡ map (λ two. two.0) names
  pub are_others : others ≡ map (λ two. two.1) names

-- the names that a record gives: no two of one table are the same
pub record AreNamesOf (cells first others : List (List ℕ)) : Type 0 where
  pub given : GiveNames cells first others
  pub first_once : distinct first ≡ first
  pub others_once : distinct others ≡ others

-- the names that a text gives
abbrev pub AreNamesIn : List ℕ → List (List ℕ) → List (List ℕ) → Type 0
AreNamesIn text first others = (cells : List (List ℕ)) × IsRecord text cells × AreNamesOf cells first others

-- the text that a reader has left which lets no bad quote pass
abbrev pub text_left : Strict (Bor (List ℕ)) → Option (List ℕ)
text_left strict = Some strict.reader.now

-- the name in the other tables: the same as in the first, unless there is another
abbrev pub other_in : TwoNames → List ℕ
other_in names = unwrap_or (option_map (λ name. name.items) names.other) names.first.items

-- the part of a cell that is read of two names
abbrev pub behind_first : Option (List ℕ) → List ℕ
behind_first None = []
behind_first (Some name) = 61 ∷ doubled name

abbrev pub read_of : TwoNames → List ℕ
read_of names = doubled names.first.items ++ behind_first (option_map (λ name. name.items) names.other)

-- an `=` that waits for what comes next
abbrev pub waiting : Bool → List ℕ
waiting waits = if waits then 61 ∷ [] else []

-- whether the second name, if there is one, has a first byte that is no `=`
abbrev pub begins_well : Option (List ℕ) → Bool
begins_well None = true
begins_well (Some []) = false
begins_well (Some (byte ∷ name)) = not (byte == 61)

-- the names that these bytes of a cell give so far
pub record HasNames (bytes : List ℕ) (names : TwoNames) : Type 0 where
  pub read : bytes ≡ read_of names ++ waiting names.waits
  pub begun : begins_well (option_map (λ name. name.items) names.other) ≡ true

-- whatever bytes were read, this one comes after them
abbrev pub ReadsByte : TwoNames → TwoNames → ℕ → Type 0
ReadsByte old new byte = (bytes : List ℕ) → HasNames bytes old → HasNames (bytes ++ (byte ∷ [])) new

-- whatever bytes were read, they are a cell now
abbrev pub EndsNames : TwoNames → TwoNames → Type 0
EndsNames old new = (bytes : List ℕ) → HasNames bytes old → GivesNames bytes (new.first.items, other_in new)
