-- A table whose keys are strictly increasing, of which parts are read: the rows that were given out, and those that wait.
use Rattle.std.specs.Prelude.{◌≡◌, ◌⊎◌, ◌≤◌, ◌+◌, ℕ, List, [], ◌∷◌, ◌++◌, Bool, true, false, Option, None, Some, length, map, if◌then◌else◌}
use Rattle.std.specs.Cmp.Lexicographic.{slice_cmp}
use Rattle.std.specs.List.{AllByRecursion}
use Rattle.std.specs.List.Sorted.{IsStrictlySortedBy}
use Rattle.std.specs.Ordering.{is_le, is_lt, nat_cmp}
use Rattle.std.specs.declared.cmp.Ordering.{Ordering}
use Rattle.keyed_rows.specs.declared.row.ReadRow.{ReadRow}
use Rattle.keyed_text.specs.Texts.{AreRows}
use Rattle.keyed_faults.specs.declared.fault.Reason.{Reason}
use Rattle.keyed_faults.specs.declared.fault.Reason.TheVariants as reason
use Rattle.keyed_files.specs.Explained.{ExplainsRow, IsOfRow, SameCount}
use Rattle.keyed_files.specs.Reading.{GivesRecord, HasGiven, IsPicked, last_record, parts_of, picked}
use Rattle.keyed_files.specs.declared.parts.Parts.{Parts}
use Rattle.keyed_files.specs.declared.source.Source.{Source}

-- the order of keys, as bytes cell by cell
abbrev pub key_cmp : List (List ℕ) → List (List ℕ) → Ordering
key_cmp = slice_cmp (slice_cmp nat_cmp)

-- whether a key is not beyond another, if there is one
abbrev pub is_within : List (List ℕ) → Option (List (List ℕ)) → Bool
is_within key None = true
is_within key (Some bound) = is_le (key_cmp key bound)

-- whether a key is greater than the last one, if there is one
abbrev pub rises_behind : Option (List (List ℕ)) → List (List ℕ) → Bool
rises_behind None key = true
rises_behind (Some last) key = is_lt (key_cmp last key)

-- the first of the rows that wait, unless it is beyond a key
abbrev pub first_within : Option (List (List ℕ)) → List ReadRow → Option ReadRow
first_within bound [] = None
first_within bound (row ∷ rows) = if is_within row.key bound then Some row else None

-- the keys of rows
abbrev pub keys_in : List ReadRow → List (List (List ℕ))
keys_in rows = map (λ row. row.key) rows

-- keys are strictly increasing, and this is the last one, if there is any
abbrev pub RisesTo : List (List (List ℕ)) → Option (List (List ℕ)) → Type 0
RisesTo keys None = keys ≡ []
RisesTo keys (Some last) = (before : List (List (List ℕ))) × (keys ≡ before ++ last ∷ []) × IsStrictlySortedBy key_cmp keys

-- the key of a row is not greater than the last one, and its line is told
abbrev pub IsNotRising : Option (List (List ℕ)) → ReadRow → Reason → Type 0
IsNotRising last row (reason.NotRising line) = (line ≡ row.line) × (rises_behind last row.key ≡ false)
IsNotRising last row _ = ⊥

module _ {R : Type 0} where
  -- as many rows wait as may, or all are read
  abbrev pub IsFull : Parts R → Type 0
  IsFull parts = (parts.is_ended ≡ true) ⊎ (512 ≤ length parts.waiting.items)

  -- a step of reading: another row waits, or all are read
  abbrev pub IsStep : Parts R → Parts R → Type 0
  IsStep old new = (new.is_ended ≡ true) ⊎ (length new.waiting.items ≡ length old.waiting.items + 1)

module _ {R : Type 0} (bound : Option (List (List ℕ))) (old new : Parts R) (rows : List ReadRow) where
  -- rows are taken of those that wait, in their order, none of which is beyond a key
  pub record Takes : Type 0 where
    pub waiting : old.waiting.items ≡ rows ++ new.waiting.items
    pub within : AllByRecursion (λ row. is_within row.key bound ≡ true) rows
    pub same : new ≡ record old { waiting = new.waiting }

  -- and so all are that are not
  abbrev pub TakesUpTo : Type 0
  TakesUpTo = Takes × (first_within bound new.waiting.items ≡ None)

module _ {R : Type 0} (remaining : R → Option (List ℕ)) where
  -- these records are read of a text: all of them where it is ended, and else those that its source has given
  abbrev pub AreRead : Bool → ℕ → Option ℕ → List ℕ → List (List (List ℕ)) → Source R → Type 0
  AreRead true d c text records source = AreRows d c text records
  AreRead false d c text records source = HasGiven d c remaining text records source

  -- of a text of which some records had been given, the rows that were taken and then those that wait are, in order, those of the
  -- records that were read since then
  pub record HasParts (d : ℕ) (c : Option ℕ) (text : List ℕ) (given : List (List (List ℕ))) (taken : List ReadRow) (parts : Parts R) : Type 0 where
    pub records : List (List (List ℕ))
    pub read : AreRead parts.is_ended d c text (given ++ records) parts.source.value
    pub rows : map parts_of (taken ++ parts.waiting.items) ≡ map (picked parts.places) records

  -- rows are read, whatever rows were taken before: they wait after those that waited, and keys that were strictly increasing are so; of a
  -- table that is ended none is
  pub record Fills (old new : Parts R) : Type 0 where
    pub more : List ReadRow
    pub waiting : new.waiting.items ≡ old.waiting.items ++ more
    pub named : new.file ≡ old.file
    pub places : new.places ≡ old.places
    pub rule : SameCount old.source.value new.source.value
    pub ended : old.is_ended ≡ true → (new.is_ended ≡ true) × (more ≡ [])
    pub rises : (taken : List ReadRow) → RisesTo (keys_in (taken ++ old.waiting.items)) old.last
        → RisesTo (keys_in (taken ++ new.waiting.items)) new.last
    pub has : (d : ℕ) (c : Option ℕ) (text : List ℕ) (given : List (List (List ℕ))) (taken : List ReadRow)
        → HasParts d c text given taken old → HasParts d c text given taken new

  -- why the next row does not wait after others: it is not read, or its key is not greater than the last one
  abbrev pub ExplainsNext : Parts R → Reason → Type 0
  ExplainsNext parts told = ((now : Source R) × SameCount parts.source.value now × ExplainsRow now told
      × (IsOfRow told → GivesRecord remaining parts.source.value now true))
      ⊎ ((now : Source R) × (row : ReadRow) × GivesRecord remaining parts.source.value now true × IsPicked parts.places (last_record now) row
      × IsNotRising parts.last row told)

  -- why no more rows are read: after some the next one does not wait
  abbrev pub ExplainsPart : Parts R → Reason → Type 0
  ExplainsPart parts told = (mid : Parts R) × Fills parts mid × (mid.is_ended ≡ false) × ExplainsNext mid told
