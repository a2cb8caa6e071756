-- The names of the columns that go and of those that come, as the header of changes says them.
use Rattle.std.specs.Prelude.{◌≡◌, ◌==◌, ℕ, List, [], ◌∷◌, ◌++◌, Bool, true, false, ⊤, drop, if◌then◌else◌}
use Rattle.std.specs.List.{flat_map}
use Rattle.keyed_columns.specs.declared.fate.Fate.{Fate}
use Rattle.keyed_columns.specs.declared.fate.Fate.TheVariants as fate

-- the name in a cell of the header of changes, if its column goes: it stands after `-`
abbrev pub going : List ℕ → List (List ℕ)
going [] = []
going (byte ∷ name) = if byte == 45 then name ∷ [] else []

-- the same after so many cells: after none, as in a table of rows, no column goes
abbrev pub going_behind : ℕ → List ℕ → List (List ℕ)
going_behind before cell = if before == 0 then [] else going cell

-- the names of the columns that go, of a record
abbrev pub names_going : ℕ → List (List ℕ) → List (List ℕ)
names_going before fields = flat_map (going_behind before) (drop before fields)

-- the same of a column that comes: its name stands after `+`
abbrev pub coming : List ℕ → List (List ℕ)
coming [] = []
coming (byte ∷ name) = if byte == 43 then name ∷ [] else []

abbrev pub coming_behind : ℕ → List ℕ → List (List ℕ)
coming_behind before cell = if before == 0 then [] else coming cell

abbrev pub names_coming : ℕ → List (List ℕ) → List (List ℕ)
names_coming before fields = flat_map (coming_behind before) (drop before fields)

-- the name of a column, if it goes
abbrev pub name_if_goes : Fate → List ℕ → List (List ℕ)
name_if_goes fate.Goes name = name ∷ []
name_if_goes fate.Comes name = []
name_if_goes fate.Stays name = []

-- names with that of a column after them, if it goes
abbrev pub with_going : Fate → List ℕ → List (List ℕ) → List (List ℕ)
with_going fate.Goes name gone = gone ++ name ∷ []
with_going fate.Comes name gone = gone
with_going fate.Stays name gone = gone

-- the name of a column, if it comes, and names with it after them
abbrev pub name_if_comes : Fate → List ℕ → List (List ℕ)
name_if_comes fate.Goes name = []
name_if_comes fate.Comes name = name ∷ []
name_if_comes fate.Stays name = []

abbrev pub with_coming : Fate → List ℕ → List (List ℕ) → List (List ℕ)
with_coming fate.Goes name came = came
with_coming fate.Comes name came = came ++ name ∷ []
with_coming fate.Stays name came = came

-- the names of the columns that go and of those that come, of a file of changes that has a first record or none, and a header or none
abbrev pub GoneSaid : Bool → Bool → List (List ℕ) → List (List ℕ) → List (List ℕ) → Type 0
GoneSaid false has_header fields gone came = (gone ≡ []) × (came ≡ [])
GoneSaid true true fields gone came = (gone ≡ names_going 1 fields) × (came ≡ names_coming 1 fields)
GoneSaid true false fields gone came = ⊤
