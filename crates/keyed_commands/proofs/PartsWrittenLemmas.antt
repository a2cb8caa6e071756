-- Two tables that are read part by part, and what is written of them: the first part, another one, and the whole.
use Rattle.std.proofs.Common.{◌≡◌, ◌∙◌, ◌⊎◌, ℕ, Bool, true, false, List, [], ◌∷◌, ◌++◌, Option, None, Some, append-nil, inl, inr, map, refl, sym, ap, subst, subst₂}
use Rattle.std.specs.Prelude.{IsNone, MatchBool, is_none}
use Rattle.std.specs.Io.KnownBytes.{Keeps}
use Rattle.std.specs.List.{AllByRecursion}
use Rattle.std.specs.List.Sorted.{IsStrictlySortedBy}
use Rattle.std.specs.Map.{keys_of}
use Rattle.std.specs.declared.cmp.Ordering.TheVariants.{Greater, Less}
use Rattle.std.proofs.KnownBytes.{Appends-kept, Appends-trans}
use Rattle.std.proofs.lemmas.List.{map-append}
use Rattle.eob_joins.specs.Laws.{AreBelow}
use Rattle.keyed_columns.specs.declared.columns.Columns.{Columns}
use Rattle.keyed_rows.specs.declared.row.ReadRow.{ReadRow}
use Rattle.keyed_files.specs.Parts.{AreRead, HasParts, IsFull, TakesUpTo, key_cmp, keys_in}
use Rattle.keyed_files.specs.Reading.{HasGiven, PlacesOf, ReadsRest, parts_of, picked}
use Rattle.keyed_files.specs.declared.opened.Two.{Two}
use Rattle.keyed_files.specs.declared.parts.Parts.{Parts}
use Rattle.keyed_files.specs.declared.source.Source.{Source}
use Rattle.keyed_files.proofs.TableLemmas.{table-read}
use Rattle.keyed_jobs.specs.Answers.{TableRows}
use Rattle.keyed_jobs.specs.TablesRead.{Gathers, ReadsTable}
use Rattle.keyed_jobs.proofs.ReadLemmas.{table-gathered}
use Rattle.keyed_commands.specs.PartAnswers.{IsByKey, SaysOf, left_columns, on_later, right_columns, status_both}
use Rattle.keyed_commands.specs.FirstRows.{table_of}
use Rattle.keyed_commands.specs.SortedParts.{AreCut, HasTaken, HasWritten, IsFresh, IsLesser, IsSpent, ReadsAll, ReadsNext, SaysNext, SaysTaken, TakesPart, WritesAll, WritesPart, WritesTables, bound_of}
use Rattle.keyed_commands.specs.declared.sorted.Part.{Part}
use Rattle.keyed_commands.specs.declared.sorted.PartWritten.{PartWritten}
use Rattle.keyed_commands.specs.declared.sorted.TwoParts.{TwoParts}
use Rattle.keyed_commands.specs.declared.sorted.Work.{Work}
use Rattle.keyed_commands.specs.declared.sorted.Work.TheVariants as work
use Rattle.keyed_commands.proofs.PartReadLemmas.{all_first, all_weaker, at_most_both, cut_there, gathers_alone, not_less, only_alone, rises_sorted, sorted_after, sorted_first, still_beyond, tables_below, taken_all, taken_filled, taken_more, taken_none}
use Rattle.keyed_commands.proofs.PartsSaidLemmas.{said_both}

abbrev Key : Type 0
Key = List (List ℕ)

none_is : {X : Type 0} (x : Option X) → IsNone x → x ≡ None
none_is None n = refl
none_is (Some x) n = absurd (cc)

-- rows come out by key in each part
pub by_key_later : (how : Work) → IsByKey how → IsByKey (on_later how)
by_key_later (work.Changes job form) h = tt
by_key_later (work.Join job form) h = record { keys = h.keys; rows = h.rows }

-- the tables of rows, one after the other
tables_both : (rows more : List ReadRow) → table_of (rows ++ more) ≡ table_of rows ++ table_of more
tables_both [] more = refl
tables_both (row ∷ rows) more = ap (λ l. (row.key, row.cells ∷ []) ∷ l) (tables_both rows more)

keys_both : (rows more : List ReadRow) → keys_of (table_of (rows ++ more)) ≡ keys_of (table_of rows) ++ keys_of (table_of more)
keys_both [] more = refl
keys_both (row ∷ rows) more = ap (λ l. row.key ∷ l) (keys_both rows more)

-- one of two things, by a test
either_of : {P Q : Type 0} (t : Bool) → MatchBool t P Q → P ⊎ Q
either_of true h = inl h
either_of false h = inr h

all_two : {X : Type 0} (P : X → Type 0) (xs ys : List X) → AllByRecursion P xs → AllByRecursion P ys → AllByRecursion P (xs ++ ys)
all_two P [] ys g h = h
all_two P (x ∷ xs) ys g h = (g.0, all_two P xs ys g.1 h)

module _ {R : Type 0} (rem : R → Option (List ℕ)) where
  pub taken_sorted : (start now : Parts R) (taken : List ReadRow) → HasTaken rem start now taken → IsStrictlySortedBy key_cmp (keys_in taken)
  taken_sorted start now taken h =
      sorted_first (keys_in taken) (keys_in now.waiting.items)
      (subst (IsStrictlySortedBy key_cmp) (map-append (λ row. row.key) taken now.waiting.items) (rises_sorted (keys_in (taken ++ now.waiting.items)) now.last h.rises))

  -- the table of a part
  part_table : (start now : Parts R) (taken rows : List ReadRow) (table : TableRows) → HasTaken rem start now (taken ++ rows) → Gathers false rows table → table ≡ table_of rows
  part_table start now taken rows table h g =
      only_alone rows table
      (sorted_after (keys_in taken) (keys_in rows) (subst (IsStrictlySortedBy key_cmp) (map-append (λ row. row.key) taken rows) (taken_sorted start now (taken ++ rows) h))) g

  module _ (start read new : TwoParts R) (left right l r : List ReadRow) (hl : HasTaken rem start.left read.left left) (hr : HasTaken rem start.right read.right right)
      (fl : IsFull read.left) (fr : IsFull read.right) where
    -- the parts are cut once more, or all rows are taken
    cut_by : (bound : Option Key) → TakesUpTo bound read.left new.left l → TakesUpTo bound read.right new.right r
        → IsLesser key_cmp (bound_of read.left) (bound_of read.right) bound
        → ((b : Key) → bound ≡ Some b → AllByRecursion (λ row. key_cmp row.key b ≡ Greater → ⊥) left × AllByRecursion (λ row. key_cmp row.key b ≡ Greater → ⊥) right)
        → (last : Bool) → last ≡ is_none bound → MatchBool last (IsSpent new.left × IsSpent new.right) (AreCut new (left ++ l) (right ++ r))
    cut_by None tl tr lesser within last e =
        let none = lesser.none.0 refl in
        subst (λ b. MatchBool b (IsSpent new.left × IsSpent new.right) (AreCut new (left ++ l) (right ++ r))) (sym e) (
          taken_all rem start.left read.left new.left left l None hl fl tl refl (none_is (bound_of read.left) none.0),
          taken_all rem start.right read.right new.right right r None hr fr tr refl (none_is (bound_of read.right) none.1),
        )
    cut_by (Some b) tl tr lesser within last e =
        subst (λ b. MatchBool b (IsSpent new.left × IsSpent new.right) (AreCut new (left ++ l) (right ++ r))) (sym e) (
          b,
          cut_there rem start.left read.left new.left left l (Some b) hl fl tl b refl lesser.least.0 (within b refl).0,
          cut_there rem start.right read.right new.right right r (Some b) hr fr tr b refl lesser.least.1 (within b refl).1,
        )

  -- the first part
  module _ (how : Work) (start new : TwoParts R) (left : IsFresh start.left) (right : IsFresh start.right) (part : Part) (reads : ReadsNext rem start new part) where
    abbrev first_read : TwoParts R
    first_read = reads.read

    abbrev first_takes : TakesPart reads.bound first_read new part
    first_takes = reads.takes

    first_left : HasTaken rem start.left first_read.left []
    first_left = taken_filled rem start.left start.left first_read.left [] (taken_none rem start.left left) reads.fills_left

    first_right : HasTaken rem start.right first_read.right []
    first_right = taken_filled rem start.right start.right first_read.right [] (taken_none rem start.right right) reads.fills_right

    left_first : HasTaken rem start.left new.left first_takes.left
    left_first = taken_more rem reads.bound start.left first_read.left new.left [] first_takes.left first_left first_takes.takes_left.0

    right_first : HasTaken rem start.right new.right first_takes.right
    right_first = taken_more rem reads.bound start.right first_read.right new.right [] first_takes.right first_right first_takes.takes_right.0

    cut_first : (last : Bool) → last ≡ part.is_last → MatchBool last (IsSpent new.left × IsSpent new.right) (AreCut new first_takes.left first_takes.right)
    cut_first last e =
        cut_by start first_read new [] [] first_takes.left first_takes.right first_left first_right reads.full_left reads.full_right reads.bound
        first_takes.takes_left first_takes.takes_right reads.lesser (λ b e. (tt, tt)) last (e ∙ first_takes.last)

    says_first : (text : List ℕ) (status : ℕ) → SaysOf how part.left.pairs.items part.right.pairs.items text status
        → SaysOf how (table_of first_takes.left) (table_of first_takes.right) text status
    says_first text status says =
        subst₂ (λ p q. SaysOf how p q text status) (part_table start.left new.left [] first_takes.left part.left.pairs.items left_first first_takes.left_table)
        (part_table start.right new.right [] first_takes.right part.right.pairs.items right_first first_takes.right_table) says

  -- it is written
  pub written_first : (how : Work) (start new : TwoParts R) (before after : Option (List ℕ)) (written : PartWritten) → IsFresh start.left → IsFresh start.right
      → WritesPart rem how start new before after written → HasWritten rem how start new before after written
  written_first how start new before after written left right w = record {
    left = w.reads.takes.left;
    right = w.reads.takes.right;
    left_taken = left_first how start new left right w.part w.reads;
    right_taken = right_first how start new left right w.part w.reads;
    cut = cut_first how start new left right w.part w.reads written.is_last w.last;
    text = w.text;
    says = says_first how start new left right w.part w.reads w.text written.status w.says;
    puts = w.puts;
  }

  -- it is said
  pub taken_first : (how : Work) (start : TwoParts R) → IsFresh start.left → IsFresh start.right → (text : List ℕ) → SaysNext rem how start text → SaysTaken rem how start text
  taken_first how start left right text w = record {
    now = w.new;
    left = w.reads.takes.left;
    right = w.reads.takes.right;
    left_taken = left_first how start w.new left right w.part w.reads;
    right_taken = right_first how start w.new left right w.part w.reads;
    cut = either_of w.part.is_last (cut_first how start w.new left right w.part w.reads w.part.is_last refl);
    status = w.status;
    says = says_first how start w.new left right w.part w.reads text w.status w.says;
  }

  -- another part
  module _ (how later : Work) (start mid new : TwoParts R) (before between : Option (List ℕ)) (first : PartWritten) (same : on_later how ≡ later)
      (h : HasWritten rem how start mid before between first) (more : first.is_last ≡ false) (part : Part) (reads : ReadsNext rem mid new part) where
    abbrev read : TwoParts R
    read = reads.read

    abbrev takes : TakesPart reads.bound read new part
    takes = reads.takes

    hl : HasTaken rem start.left read.left h.left
    hl = taken_filled rem start.left mid.left read.left h.left h.left_taken reads.fills_left

    hr : HasTaken rem start.right read.right h.right
    hr = taken_filled rem start.right mid.right read.right h.right h.right_taken reads.fills_right

    tl : HasTaken rem start.left new.left (h.left ++ takes.left)
    tl = taken_more rem reads.bound start.left read.left new.left h.left takes.left hl takes.takes_left.0

    tr : HasTaken rem start.right new.right (h.right ++ takes.right)
    tr = taken_more rem reads.bound start.right read.right new.right h.right takes.right hr takes.takes_right.0

    cut : AreCut mid h.left h.right
    cut = subst (λ b. MatchBool b (IsSpent mid.left × IsSpent mid.right) (AreCut mid h.left h.right)) more h.cut

    -- the next key at which they are cut is not less
    up : (b : Key) → reads.bound ≡ Some b → key_cmp cut.0 b ≡ Greater → ⊥
    up b e = elim reads.lesser.is_one [
      | inl is ↦ not_less rem start.left mid.left read.left h.left h.left_taken reads.fills_left cut.0 b cut.1 (sym e ∙ is)
      | inr is ↦ not_less rem start.right mid.right read.right h.right h.right_taken reads.fills_right cut.0 b cut.2 (sym e ∙ is)
    ]

    still_within : (b : Key) → reads.bound ≡ Some b → (taken : List ReadRow) → AllByRecursion (λ row. key_cmp row.key cut.0 ≡ Greater → ⊥) taken
        → AllByRecursion (λ row. key_cmp row.key b ≡ Greater → ⊥) taken
    still_within b e taken within =
        all_weaker (λ row. key_cmp row.key cut.0 ≡ Greater → ⊥) (λ row. key_cmp row.key b ≡ Greater → ⊥) (λ row n. at_most_both row.key cut.0 b n (up b e)) taken within

    -- the rows of the part are beyond those before it
    beyond_left : AllByRecursion (λ row. key_cmp cut.0 row.key ≡ Less) takes.left
    beyond_left =
        all_first (λ row. key_cmp cut.0 row.key ≡ Less) takes.left new.left.waiting.items
        (subst (AllByRecursion (λ row. key_cmp cut.0 row.key ≡ Less)) takes.takes_left.0.waiting
        (still_beyond rem start.left mid.left read.left h.left h.left_taken reads.fills_left cut.0 cut.1))

    beyond_right : AllByRecursion (λ row. key_cmp cut.0 row.key ≡ Less) takes.right
    beyond_right =
        all_first (λ row. key_cmp cut.0 row.key ≡ Less) takes.right new.right.waiting.items
        (subst (AllByRecursion (λ row. key_cmp cut.0 row.key ≡ Less)) takes.takes_right.0.waiting
        (still_beyond rem start.right mid.right read.right h.right h.right_taken reads.fills_right cut.0 cut.2))

    below : AreBelow key_cmp (keys_of (table_of h.left) ++ keys_of (table_of h.right)) (keys_of (table_of takes.left) ++ keys_of (table_of takes.right))
    below =
        subst₂ (AreBelow key_cmp) (keys_both h.left h.right) (keys_both takes.left takes.right)
        (tables_below cut.0 (h.left ++ h.right) (takes.left ++ takes.right)
        (all_two (λ row. key_cmp row.key cut.0 ≡ Greater → ⊥) h.left h.right cut.1.within cut.2.within)
        (all_two (λ row. key_cmp cut.0 row.key ≡ Less) takes.left takes.right beyond_left beyond_right))

    cut_next : (last : Bool) → last ≡ part.is_last → MatchBool last (IsSpent new.left × IsSpent new.right) (AreCut new (h.left ++ takes.left) (h.right ++ takes.right))
    cut_next last e =
        cut_by start read new h.left h.right takes.left takes.right hl hr reads.full_left reads.full_right reads.bound takes.takes_left takes.takes_right
        reads.lesser (λ b e. (still_within b e h.left cut.1.within, still_within b e h.right cut.2.within)) last (e ∙ takes.last)

    module _ (text : List ℕ) (status : ℕ) (says : SaysOf later part.left.pairs.items part.right.pairs.items text status) where
      says_part : SaysOf (on_later how) (table_of takes.left) (table_of takes.right) text status
      says_part =
          subst (λ o. SaysOf o (table_of takes.left) (table_of takes.right) text status) (sym same)
          (subst₂ (λ p q. SaysOf later p q text status) (part_table start.left new.left h.left takes.left part.left.pairs.items tl takes.left_table)
          (part_table start.right new.right h.right takes.right part.right.pairs.items tr takes.right_table) says)

      says_next : SaysOf how (table_of (h.left ++ takes.left)) (table_of (h.right ++ takes.right)) (h.text ++ text) (status_both first.status status)
      says_next =
          subst₂ (λ p q. SaysOf how p q (h.text ++ text) (status_both first.status status)) (sym (tables_both h.left takes.left)) (sym (tables_both h.right takes.right))
          (said_both (table_of h.left) (table_of takes.left) (table_of h.right) (table_of takes.right) below how h.text text first.status status h.says says_part)

  -- it is written
  pub written_next : (how later : Work) (start mid new : TwoParts R) (before between after : Option (List ℕ)) (first next whole : PartWritten) → on_later how ≡ later
      → HasWritten rem how start mid before between first → first.is_last ≡ false → WritesPart rem later mid new between after next
      → whole.status ≡ status_both first.status next.status → whole.is_last ≡ next.is_last → HasWritten rem how start new before after whole
  written_next how later start mid new before between after first next whole same h more w status last = record {
    left = h.left ++ w.reads.takes.left;
    right = h.right ++ w.reads.takes.right;
    left_taken = tl how later start mid new before between first same h more w.part w.reads;
    right_taken = tr how later start mid new before between first same h more w.part w.reads;
    cut = cut_next how later start mid new before between first same h more w.part w.reads whole.is_last (last ∙ w.last);
    text = h.text ++ w.text;
    says = subst (SaysOf how (table_of (h.left ++ w.reads.takes.left)) (table_of (h.right ++ w.reads.takes.right)) (h.text ++ w.text)) (sym status)
        (says_next how later start mid new before between first same h more w.part w.reads w.text next.status w.says);
    puts = Appends-trans before between after h.text w.text h.puts w.puts;
  }

  -- it is said
  pub taken_next : (how later : Work) (start mid : TwoParts R) (before between : Option (List ℕ)) (first : PartWritten) → on_later how ≡ later
      → (h : HasWritten rem how start mid before between first) → first.is_last ≡ false → (text : List ℕ) → SaysNext rem later mid text → SaysTaken rem how start (h.text ++ text)
  taken_next how later start mid before between first same h more text w = record {
    now = w.new;
    left = h.left ++ w.reads.takes.left;
    right = h.right ++ w.reads.takes.right;
    left_taken = tl how later start mid w.new before between first same h more w.part w.reads;
    right_taken = tr how later start mid w.new before between first same h more w.part w.reads;
    cut = either_of w.part.is_last (cut_next how later start mid w.new before between first same h more w.part w.reads w.part.is_last refl);
    status = status_both first.status w.status;
    says = says_next how later start mid w.new before between first same h more w.part w.reads text w.status w.says;
  }

  -- what is written is said
  pub taken_written : (how : Work) (start now : TwoParts R) (before after : Option (List ℕ)) (written : PartWritten) → (h : HasWritten rem how start now before after written)
      → SaysTaken rem how start h.text
  taken_written how start now before after written h = record {
    now = now;
    left = h.left;
    right = h.right;
    left_taken = h.left_taken;
    right_taken = h.right_taken;
    cut = either_of written.is_last h.cut;
    status = written.status;
    says = h.says;
  }

  -- all rows are read
  reads_all : (start now : Parts R) (taken : List ReadRow) → HasTaken rem start now taken → IsSpent now → ReadsAll rem start (table_of taken)
  reads_all start now taken h spent = (
    taken,
    gathers_alone taken (taken_sorted start now taken h),
    λ d c text given begun.
        let parts : HasParts rem d c text given taken now = h.has d c text given begun in (
          parts.records,
          subst (λ b. AreRead rem b d c text (given ++ parts.records) now.source.value) spent.0 parts.read,
          ap (map parts_of) (sym (append-nil taken) ∙ ap (λ l. taken ++ l) (sym spent.1)) ∙ parts.rows ∙ ap (λ q. map (picked q) parts.records) h.places,
        ),
  )

  -- the whole is written
  pub written_all : (how : Work) (start now : TwoParts R) (before between after : Option (List ℕ)) (whole : PartWritten) → whole.is_last ≡ true
      → HasWritten rem how start now before between whole → Keeps between after → WritesAll rem how start before after whole.status
  written_all how start now before between after whole last h kept =
      let spent : IsSpent now.left × IsSpent now.right =
      subst (λ b. MatchBool b (IsSpent now.left × IsSpent now.right) (AreCut now h.left h.right)) last h.cut in
      record {
        left = table_of h.left;
        right = table_of h.right;
        left_read = reads_all start.left now.left h.left h.left_taken spent.0;
        right_read = reads_all start.right now.right h.right h.right_taken spent.1;
        text = h.text;
        says = h.says;
        puts = Appends-kept before between after h.text h.puts kept;
      }

  -- a table that is read part by part is that of its source
  table_of_source : (columns : Columns) (source : Source R) (start : Parts R) (table : TableRows) → PlacesOf source columns start.places
      → ((d : ℕ) (c : Option ℕ) (text : List ℕ) (given : List (List (List ℕ))) → HasGiven d c rem text given source → HasParts rem d c text given [] start)
      → ReadsAll rem start table → ReadsTable rem false columns source table
  table_of_source columns source start table places begins h =
      let rest : ReadsRest rem start.places source [] h.0 = λ d c text given begun.
      let all = h.2 d c text given (begins d c text given begun) in
      (all.0, all.1, record { more = h.0; rows = refl; parts = all.2 }) in
      table-gathered rem false columns source [] h.0 table refl (table-read rem columns start.places source [] h.0 places rest) h.1

  pub written_tables : (how : Work) (tables : Two R) (start : TwoParts R) (before after : Option (List ℕ)) (status : ℕ)
      → PlacesOf tables.first.source.value (left_columns how) start.left.places → PlacesOf tables.next.source.value (right_columns how) start.right.places
      → ((d : ℕ) (c : Option ℕ) (text : List ℕ) (given : List (List (List ℕ))) → HasGiven d c rem text given tables.first.source.value → HasParts rem d c text given [] start.left)
      → ((d : ℕ) (c : Option ℕ) (text : List ℕ) (given : List (List (List ℕ))) → HasGiven d c rem text given tables.next.source.value → HasParts rem d c text given [] start.right)
      → WritesAll rem how start before after status → WritesTables rem how tables before after status
  written_tables how tables start before after status left_places right_places left_begins right_begins w = record {
    left = w.left;
    right = w.right;
    left_read = table_of_source (left_columns how) tables.first.source.value start.left w.left left_places left_begins w.left_read;
    right_read = table_of_source (right_columns how) tables.next.source.value start.right w.right right_places right_begins w.right_read;
    text = w.text;
    says = w.says;
    puts = w.puts;
  }
