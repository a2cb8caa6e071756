-- Whether each name of a key is that of one column, and what is wrong where one is not.
use Rattle.std.specs.Prelude.{◌≡◌, ◌==◌, ◌&&◌, ◌||◌, ◌++◌, ◌⊎◌, ℕ, Bool, true, not, List, [], ◌∷◌, ⊤, filter, length, map, nat_eq, zip}
use Rattle.std.specs.Cmp.Lexicographic.{pointwise}
use Rattle.keyed_faults.specs.declared.fault.Reason.{Reason}
use Rattle.keyed_faults.specs.declared.fault.Reason.TheVariants as reason
use Rattle.keyed_columns.specs.ColumnNames.{has_name}
use Rattle.keyed_columns.specs.Names.{names_in, renamed}
use Rattle.keyed_columns.specs.Repeated.{AreRepeated, stands_twice}
use Rattle.keyed_columns.specs.declared.header.There.{There}
use Rattle.keyed_columns.specs.declared.key_record.KeyNames.{KeyNames}

-- of these names it is known which there are, and which of them stand there more than once
pub record TellsNames (names : List (List ℕ)) (there : There) : Type 0 where
  pub each : (name : List ℕ) → has_name (names_in there.each) name ≡ has_name names name
  pub repeated : AreRepeated names (names_in there.repeated)

-- the same of whatever names were known, and one more after them
abbrev pub PutsName : There → There → List ℕ → Type 0
PutsName old new name = (names : List (List ℕ)) → TellsNames names old → TellsNames (names ++ name ∷ []) new

-- whether there are names of columns, and none of this name that stays: it is not there, or its column goes
abbrev pub lacks : List (List ℕ) → List (List ℕ) → List ℕ → Bool
lacks names gone name = not (length names == 0) && (has_name gone name || not (has_name names name))

-- the first of the names of those columns that have two
abbrev pub with_two_names : List (List ℕ) → List (List ℕ) → List (List ℕ)
with_two_names first others = map (λ pair. pair.0) (filter (λ pair. not (pointwise nat_eq pair.0 pair.1)) (zip first others))

module _ (spelled names gone : List (List ℕ)) where
  -- whether a name is that of one column, which stays, of a header that spells its names so; of one with no name, as of an empty file, each is
  abbrev pub is_one_column : List ℕ → Bool
  is_one_column name = not (stands_twice spelled name) && not (lacks names gone name)

  -- why a name is not that of one column: the header spells it more than once, or it lacks the name, and the names that it has are told
  abbrev pub ExplainsName : List ℕ → Reason → Type 0
  ExplainsName name (reason.RepeatedColumn line told) = (told.items ≡ name) × (stands_twice spelled name ≡ true)
  ExplainsName name (reason.NoColumn line told there) = (told.items ≡ name) × (there ≡ names) × (lacks names gone name ≡ true)
  ExplainsName name reason.NoMemory = ⊤
  ExplainsName name _ = ⊥

  -- why the names of a key are not those of one column each: one of them is not, or memory was refused
  abbrev pub ExplainsKey : List (List ℕ) → Reason → Type 0
  ExplainsKey key told = (told ≡ reason.NoMemory) ⊎ ((name : List ℕ) × (has_name key name ≡ true) × ExplainsName name told)

  -- why columns do not get other names: one that would is not a column, or two would have one name
  abbrev pub ExplainsRenaming : KeyNames → Reason → Type 0
  ExplainsRenaming key (reason.NamedTwice line name) = stands_twice (map (renamed key.first key.others) names) name.items ≡ true
  ExplainsRenaming key (reason.RepeatedColumn line name) = ExplainsKey (with_two_names key.first key.others) (reason.RepeatedColumn line name)
  ExplainsRenaming key (reason.NoColumn line name there) = ExplainsKey (with_two_names key.first key.others) (reason.NoColumn line name there)
  ExplainsRenaming key reason.NoMemory = ⊤
  ExplainsRenaming key _ = ⊥
