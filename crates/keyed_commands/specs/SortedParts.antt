-- Two tables whose keys are strictly increasing, of which parts are taken: the rows of both up to a key.
use Rattle.std.specs.Prelude.{◌≡◌, ◌⊎◌, ◌↔◌, ◌++◌, ℕ, List, [], true, false, Option, None, Some, IfSome, IsNone, MatchBool, cond, is_none, map}
use Rattle.std.specs.Io.KnownBytes.{Appends}
use Rattle.std.specs.List.{AllByRecursion}
use Rattle.std.specs.declared.cmp.Ordering.{Ordering}
use Rattle.std.specs.declared.cmp.Ordering.TheVariants.{Greater, Less}
use Rattle.keyed_files.specs.Explained.{SameCount}
use Rattle.keyed_files.specs.Parts.{Fills, HasParts, IsFull, RisesTo, TakesUpTo, key_cmp, keys_in}
use Rattle.keyed_files.specs.Reading.{parts_of, picked}
use Rattle.keyed_files.specs.declared.opened.Two.{Two}
use Rattle.keyed_files.specs.declared.parts.Parts.{Parts}
use Rattle.keyed_rows.specs.declared.row.ReadRow.{ReadRow}
use Rattle.keyed_text.specs.Texts.{AreRows}
use Rattle.keyed_jobs.specs.Answers.{TableRows}
use Rattle.keyed_jobs.specs.TablesRead.{Gathers, ReadsTable}
use Rattle.keyed_jobs.specs.Written.{PutsBeginning}
use Rattle.keyed_commands.specs.FirstRows.{ReadsFirst, table_of}
use Rattle.keyed_commands.specs.Keys.{IsAtMost}
use Rattle.keyed_commands.specs.PartAnswers.{IsByKey, SaysOf, left_columns, on_later, right_columns}
use Rattle.keyed_commands.specs.declared.sorted.Part.{Part}
use Rattle.keyed_commands.specs.declared.sorted.PartWritten.{PartWritten}
use Rattle.keyed_commands.specs.declared.sorted.TwoParts.{TwoParts}
use Rattle.keyed_commands.specs.declared.sorted.Work.{Work}

-- the key up to which all rows are read, or none where all are
abbrev pub bound_of : {R : Type 0} → Parts R → Option (List (List ℕ))
bound_of parts = cond parts.is_ended None parts.last

-- the lesser of two keys; where one is absent, the other
pub record IsLesser {K : Type 0} (cmp : K → K → Ordering) (left right key : Option K) : Type 0 where
  pub is_one : (key ≡ left) ⊎ (key ≡ right)
  pub none : IsNone key ↔ (IsNone left × IsNone right)
  pub least : IfSome key (λ k. IsAtMost cmp k left × IsAtMost cmp k right)

-- the keys of the rows that wait are strictly increasing, and no row was taken yet
abbrev pub IsFresh : {R : Type 0} → Parts R → Type 0
IsFresh parts = RisesTo (keys_in parts.waiting.items) parts.last

-- a key that no row that was taken is beyond, that each row that waits is beyond, and up to which all rows are read
pub record IsCutAt {R : Type 0} (bound : List (List ℕ)) (taken : List ReadRow) (parts : Parts R) : Type 0 where
  pub within : AllByRecursion (λ row. key_cmp row.key bound ≡ Greater → ⊥) taken
  pub beyond : AllByRecursion (λ row. key_cmp bound row.key ≡ Less) parts.waiting.items
  pub reached : (parts.is_ended ≡ true) ⊎ ((last : List (List ℕ)) × (parts.last ≡ Some last) × (key_cmp bound last ≡ Greater → ⊥))

module _ {R : Type 0} where
  -- all rows are read, and none waits
  abbrev pub IsSpent : Parts R → Type 0
  IsSpent parts = (parts.is_ended ≡ true) × (parts.waiting.items ≡ [])

  -- both tables are cut at one key
  abbrev pub AreCut : TwoParts R → List ReadRow → List ReadRow → Type 0
  AreCut parts left right = (bound : List (List ℕ)) × IsCutAt bound left parts.left × IsCutAt bound right parts.right

  -- the rows that wait in both tables are taken, as far as they are not beyond a key; they are the last ones where there is no key
  pub record TakesPart (bound : Option (List (List ℕ))) (old new : TwoParts R) (part : Part) : Type 0 where
    pub left : List ReadRow
    pub right : List ReadRow
    pub takes_left : TakesUpTo bound old.left new.left left
    pub takes_right : TakesUpTo bound old.right new.right right
    pub left_table : Gathers false left part.left.pairs.items
    pub right_table : Gathers false right part.right.pairs.items
    pub last : part.is_last ≡ is_none bound

  module _ (remaining : R → Option (List ℕ)) where
    -- both tables are read on, and the rows of both are taken up to a key up to which all rows of both are read
    pub record ReadsNext (old new : TwoParts R) (part : Part) : Type 0 where
      pub read : TwoParts R
      pub fills_left : Fills remaining old.left read.left
      pub fills_right : Fills remaining old.right read.right
      pub full_left : IsFull read.left
      pub full_right : IsFull read.right
      pub bound : Option (List (List ℕ))
      pub lesser : IsLesser key_cmp (bound_of read.left) (bound_of read.right) bound
      pub takes : TakesPart bound read new part

    -- rows were taken of a table since it stood at the start, and others wait
    pub record HasTaken (start now : Parts R) (taken : List ReadRow) : Type 0 where
      pub named : now.file ≡ start.file
      pub places : now.places ≡ start.places
      pub rule : SameCount start.source.value now.source.value
      pub rises : RisesTo (keys_in (taken ++ now.waiting.items)) now.last
      pub has : (d : ℕ) (c : Option ℕ) (text : List ℕ) (given : List (List (List ℕ)))
          → HasParts remaining d c text given [] start → HasParts remaining d c text given taken now

    -- what a work says of the next part is put after what was written
    pub record WritesPart (work : Work) (old new : TwoParts R) (before after : Option (List ℕ)) (written : PartWritten) : Type 0 where
      pub part : Part
      pub reads : ReadsNext old new part
      pub text : List ℕ
      pub says : SaysOf work part.left.pairs.items part.right.pairs.items text written.status
      pub puts : Appends before after text
      pub last : written.is_last ≡ part.is_last

    -- rows of both tables were taken since these stood at the start, up to a key or all of them, and what a work says of these rows as tables is
    -- put after what was written before
    pub record HasWritten (work : Work) (start now : TwoParts R) (before after : Option (List ℕ)) (written : PartWritten) : Type 0 where
      pub left : List ReadRow
      pub right : List ReadRow
      pub left_taken : HasTaken start.left now.left left
      pub right_taken : HasTaken start.right now.right right
      pub cut : MatchBool written.is_last (IsSpent now.left × IsSpent now.right) (AreCut now left right)
      pub text : List ℕ
      pub says : SaysOf work (table_of left) (table_of right) text written.status
      pub puts : Appends before after text

    -- whatever was written of two tables since these stood at some start, what is said of the parts after that is put after it
    abbrev pub WritesLater : Work → TwoParts R → TwoParts R → Option (List ℕ) → Option (List ℕ) → PartWritten → PartWritten → Type 0
    WritesLater later mid new between after first whole = (work : Work) (start : TwoParts R) (before : Option (List ℕ)) → on_later work ≡ later → IsByKey work
        → HasWritten work start mid before between first → HasWritten work start new before after whole

    -- what a work says of the next part
    pub record SaysNext (work : Work) (old : TwoParts R) (text : List ℕ) : Type 0 where
      pub new : TwoParts R
      pub part : Part
      pub reads : ReadsNext old new part
      pub status : ℕ
      pub says : SaysOf work part.left.pairs.items part.right.pairs.items text status

    -- what a work says, as of tables, of rows of both tables that were taken since these stood at the start: of those up to a key, or of all
    pub record SaysTaken (work : Work) (start : TwoParts R) (text : List ℕ) : Type 0 where
      pub now : TwoParts R
      pub left : List ReadRow
      pub right : List ReadRow
      pub left_taken : HasTaken start.left now.left left
      pub right_taken : HasTaken start.right now.right right
      pub cut : (IsSpent now.left × IsSpent now.right) ⊎ AreCut now left right
      pub status : ℕ
      pub says : SaysOf work (table_of left) (table_of right) text status

    -- whatever was written of two tables since these stood at some start, with a beginning of what is said of the parts after that it is a
    -- beginning of what is said of rows that both begin with
    abbrev pub BeginsLater : Work → TwoParts R → Option (List ℕ) → Option (List ℕ) → PartWritten → List ℕ → Type 0
    BeginsLater later mid between after first file = (work : Work) (start : TwoParts R) (before : Option (List ℕ)) → on_later work ≡ later → IsByKey work
        → HasWritten work start mid before between first → PutsBeginning (SaysTaken work start) file before after

    -- a table is read to its end: of a text of which some records had been given, its rows are those of all others
    abbrev pub ReadsAll : Parts R → TableRows → Type 0
    ReadsAll start table = (rows : List ReadRow) × Gathers false rows table
        × ((d : ℕ) (c : Option ℕ) (text : List ℕ) (given : List (List (List ℕ))) → HasParts remaining d c text given [] start
        → (records : List (List (List ℕ))) × AreRows d c text (given ++ records) × (map parts_of rows ≡ map (picked start.places) records))

    -- both tables are read to their ends, and what a work says of them is put after what was written
    pub record WritesAll (work : Work) (start : TwoParts R) (before after : Option (List ℕ)) (status : ℕ) : Type 0 where
      pub left : TableRows
      pub right : TableRows
      pub left_read : ReadsAll start.left left
      pub right_read : ReadsAll start.right right
      pub text : List ℕ
      pub says : SaysOf work left right text status
      pub puts : Appends before after text

    -- the same of two sources
    pub record WritesTables (work : Work) (tables : Two R) (before after : Option (List ℕ)) (status : ℕ) : Type 0 where
      pub left : TableRows
      pub right : TableRows
      pub left_read : ReadsTable remaining false (left_columns work) tables.first.source.value left
      pub right_read : ReadsTable remaining false (right_columns work) tables.next.source.value right
      pub text : List ℕ
      pub says : SaysOf work left right text status
      pub puts : Appends before after text

    -- what a work says, as of tables, of the rows that two sources begin with: of all whose keys are within a bound
    pub record SaysFirst (work : Work) (tables : Two R) (text : List ℕ) : Type 0 where
      pub bound : Option (List (List ℕ))
      pub left : List ReadRow
      pub right : List ReadRow
      pub left_read : ReadsFirst remaining (left_columns work) tables.first.source.value bound left
      pub right_read : ReadsFirst remaining (right_columns work) tables.next.source.value bound right
      pub status : ℕ
      pub says : SaysOf work (table_of left) (table_of right) text status
