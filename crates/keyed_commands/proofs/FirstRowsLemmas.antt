-- The rows that were taken of a source are those that its text begins with.
use Rattle.std.proofs.Common.{◌≡◌, ◌∙◌, ℕ, Bool, true, false, List, [], ◌∷◌, ◌++◌, Option, None, Some, append-nil, append_assoc, inl, inr, map, refl, sym, ap, ap₂, subst}
use Rattle.std.specs.List.{AllByRecursion}
use Rattle.std.specs.List.Sorted.{IsStrictlySortedBy}
use Rattle.std.specs.declared.cmp.Ordering.TheVariants.{Greater, Less}
use Rattle.std.proofs.lemmas.List.{map-append}
use Rattle.std.proofs.lemmas.Simd.{map-map}
use Rattle.csv.specs.Machine.{Read, next_record}
use Rattle.csv.specs.Reading.{Reached, reader_state, strip_bom}
use Rattle.csv.specs.declared.parser.Config.{Config}
use Rattle.csv.specs.declared.parser.State.{State}
use Rattle.csv.specs.declared.parser.State.TheVariants as st
use Rattle.keyed_rows.specs.declared.row.ReadRow.{ReadRow}
use Rattle.keyed_text.specs.Streams.{HasRead}
use Rattle.keyed_text.specs.Texts.{AreRows, config_by}
use Rattle.keyed_text.specs.declared.row_reader.RowReader.{RowReader}
use Rattle.keyed_text.proofs.TextLemmas.{rows-once}
use Rattle.keyed_requests.specs.FormBytes.{comment_of, delimiter_of}
use Rattle.keyed_requests.specs.declared.request.Form.{Form}
use Rattle.keyed_columns.specs.Headers.{place_under}
use Rattle.keyed_columns.specs.CellsUnder.{cell_at, row_under}
use Rattle.keyed_columns.specs.declared.columns.Columns.{Columns}
use Rattle.keyed_columns.specs.declared.content.Content.{Content}
use Rattle.keyed_files.specs.CellPlaces.{ArePlaces}
use Rattle.keyed_files.specs.Parts.{AreRead, HasParts, RisesTo, is_within, key_cmp, keys_in}
use Rattle.keyed_files.specs.Reading.{HasGiven, HasGivenIn, IsHeader, IsTable, PlacesOf, last_record, parts_of, picked}
use Rattle.keyed_files.specs.declared.opened.Two.{Two}
use Rattle.keyed_files.specs.declared.parts.Parts.{Parts}
use Rattle.keyed_files.specs.declared.source.Next.{Next}
use Rattle.keyed_files.specs.declared.source.Next.TheVariants as next
use Rattle.keyed_files.specs.declared.source.Places.{Places}
use Rattle.keyed_files.specs.declared.source.Source.{Source}
use Rattle.keyed_jobs.specs.Written.{PutsBeginning}
use Rattle.keyed_commands.specs.FirstRows.{IsBeyond, ReadsFirst}
use Rattle.keyed_commands.specs.PartAnswers.{left_columns, right_columns}
use Rattle.keyed_commands.specs.SortedParts.{HasTaken, IsCutAt, IsSpent, SaysFirst, SaysTaken}
use Rattle.keyed_commands.specs.declared.sorted.TwoParts.{TwoParts}
use Rattle.keyed_commands.specs.declared.sorted.Work.{Work}
use Rattle.keyed_commands.proofs.PartReadLemmas.{all_weaker, at_most_less, at_most_within, last_below, last_key}
use Rattle.keyed_commands.proofs.PartsBegunLemmas.{begun_weaker}
use Rattle.keyed_commands.proofs.PartsWrittenLemmas.{taken_sorted}

abbrev Key : Type 0
Key = List (List ℕ)

some_same : {A : Type 0} {x y : A} → Some x ≡ Some y → x ≡ y
some_same e = cc e

-- records that were read of a text are the first ones of all its records
first_reached : (cfg : Config) (s s2 t2 : State) (xs ys zs : List ℕ) (rows all : List (List (List ℕ))) → Reached cfg s xs rows s2 ys → Reached cfg s xs all t2 zs
    → next_record cfg t2 [] [] zs ≡ None → (more : List (List (List ℕ))) × (all ≡ rows ++ more)
unfolding Reached
first_reached cfg s s2 t2 xs ys zs [] all h k none = (all, refl)
first_reached cfg s s2 t2 xs ys zs (row ∷ rows) [] h k none =
    let ended : next_record cfg s [] [] xs ≡ None = rw (k.0, k.1) none in
    absurd (cc (sym ended ∙ h.1))
first_reached cfg s s2 t2 xs ys zs (row ∷ rows) (first ∷ all) h k none =
    let same : k.0 ≡ h.0 = some_same (sym k.1 ∙ h.1) in
    let rest = first_reached cfg h.0.1 s2 t2 h.0.2 ys zs rows all h.3 (subst (λ (p : Read). Reached cfg p.1 p.2 all t2 zs) same k.3) none in
    (rest.0, ap₂ (λ r rs. r ∷ rs) (k.2 ∙ ap (λ (p : Read). p.0) same ∙ sym h.2) rest.1)

module _ {R : Type 0} (rem : R → Option (List ℕ)) (d : ℕ) (c : Option ℕ) (text : List ℕ) (all : List (List (List ℕ))) (are : AreRows d c text all) where
  read_first : {S : Type 0} (left : S → Option (List ℕ)) (rows : List (List (List ℕ))) (reader : RowReader S) → HasRead d c left text rows reader
      → (more : List (List (List ℕ))) × (all ≡ rows ++ more)
  read_first left rows reader h =
      first_reached (config_by d c) st.StartRecord (reader_state reader.reader) are.0 (strip_bom text) h.left are.1 rows all h.reached are.2 are.3

  given_first : (rows : List (List (List ℕ))) (source : Source R) (state : Next) → HasGivenIn d c rem text rows source state
      → (more : List (List (List ℕ))) × (all ≡ rows ++ more)
  given_first rows source next.Kept h =
      let rest = read_first _ (rows ++ (last_record source ∷ [])) source.reader h in
      (last_record source ∷ rest.0, rest.1 ∙ append_assoc rows (last_record source ∷ []) rest.0)
  given_first rows source next.Read h = read_first _ rows source.reader h
  given_first rows source next.Ended h = ([], rows-once d c text all rows are h ∙ sym (append-nil rows))

  are_first : (ended : Bool) (rows : List (List (List ℕ))) (source : Source R) → AreRead rem ended d c text rows source
      → (more : List (List (List ℕ))) × (all ≡ rows ++ more) × (ended ≡ true → more ≡ [])
  are_first true rows source h = ([], rows-once d c text all rows are h ∙ sym (append-nil rows), λ e. refl)
  are_first false rows source h =
      let rest = given_first rows source source.next h in
      (rest.0, rest.1, λ e. absurd (cc e))

-- a row of a key and cells
abbrev row_of : List (List ℕ) × List (List ℕ) → ReadRow
row_of parts = record { key = parts.0; line = 0; cells = parts.1 }

rows_of : (parts : List (List (List ℕ) × List (List ℕ))) → map parts_of (map row_of parts) ≡ parts
rows_of [] = refl
rows_of (part ∷ parts) = ap (λ l. part ∷ l) (rows_of parts)

-- the cells at the places of columns are those under their names
module _ (kind : Content) (names : List (List ℕ)) (columns : Columns) (places : Places) (are : ArePlaces kind names columns places) where
  picked_under : (fields : List (List ℕ)) → picked places fields ≡ row_under kind names columns fields
  picked_under fields =
      rw (are.key, are.rest) (ap₂ (λ key rest. (key, rest)) (map-map (cell_at fields) (place_under kind names) columns.key)
      (map-map (cell_at fields) (place_under kind names) columns.rest))

  all_under : (records : List (List (List ℕ))) → map (picked places) records ≡ map (row_under kind names columns) records
  all_under [] = refl
  all_under (fields ∷ records) = ap₂ (λ row rows. row ∷ rows) (picked_under fields) (all_under records)

-- a text with these records says a table with these rows
module _ (form : Form) (kind : Content) (text : List ℕ) (header names : List (List ℕ)) (columns : Columns) (rows : List ReadRow) where
  said_table : (has_header : Bool) → form.has_header ≡ has_header → (first records : List (List (List ℕ))) → IsHeader form kind text header has_header first
      → AreRows (delimiter_of form) (comment_of form) text (first ++ records) → map parts_of rows ≡ map (row_under kind names columns) records
      → IsTable form kind text header names columns rows
  said_table true same [] records head all parts =
      let none : records ≡ [] = rows-once _ _ text records [] all head.0 in
      ([], head.0, head.1, rw same (subst (λ r. map parts_of rows ≡ map (row_under kind names columns) r) none parts))
  said_table true same (fields ∷ []) records head all parts = (fields ∷ records, all, rw same head, rw same parts)
  said_table true same (fields ∷ more ∷ rest) records head all parts = absurd head
  said_table false same [] records head all parts = (records, all, rw same (head records all), rw same parts)
  said_table false same (fields ∷ rest) records head all parts = absurd head

module _ {R : Type 0} (rem : R → Option (List ℕ)) where
  module _ (columns : Columns) (source : Source R) (start now : Parts R) (taken : List ReadRow) (bound : Option Key) (placed : PlacesOf source columns start.places)
      (begins : (d : ℕ) (c : Option ℕ) (text : List ℕ) (given : List (List (List ℕ))) → HasGiven d c rem text given source → HasParts rem d c text given [] start)
      (h : HasTaken rem start now taken) (within : AllByRecursion (λ row. is_within row.key bound ≡ true) taken)
      (beyond : (unread : List ReadRow) → (now.is_ended ≡ true → unread ≡ []) → IsBeyond bound taken (now.waiting.items ++ unread)) where
    -- the rows that were taken, those that wait, and others
    all_parts : (records more : List (List (List ℕ))) → map parts_of (taken ++ now.waiting.items) ≡ map (picked now.places) records
        → map parts_of (taken ++ (now.waiting.items ++ map row_of (map (picked now.places) more))) ≡ map (picked now.places) (records ++ more)
    all_parts records more rows =
        let unread = map row_of (map (picked now.places) more) in
        ap (map parts_of) (sym (append_assoc taken now.waiting.items unread)) ∙ map-append parts_of (taken ++ now.waiting.items) unread
        ∙ ap₂ (λ xs ys. xs ++ ys) rows (rows_of (map (picked now.places) more)) ∙ sym (map-append (picked now.places) records more)

    pub reads_first : ReadsFirst rem columns source bound taken
    reads_first = λ form kind text header begun. record {
      rises = taken_sorted rem start now taken h;
      within = within;
      says = λ all are.
          let parts : HasParts rem _ _ text begun.first taken now = h.has _ _ text begun.first (begins _ _ text begun.first begun.given) in
          let more = are_first rem _ _ text all are now.is_ended (begun.first ++ parts.records) now.source.value parts.read in
          let unread = map row_of (map (picked now.places) more.0) in
          let places = subst (PlacesOf source columns) (sym h.places) placed in
          let under = all_under kind source.header.names columns now.places (subst (λ k. ArePlaces k source.header.names columns now.places) begun.content places) (parts.records ++ more.0) in
          let whole = subst (AreRows (delimiter_of form) (comment_of form) text) (more.1 ∙ append_assoc begun.first parts.records more.0) are in (
            now.waiting.items ++ unread,
            said_table form kind text header source.header.names columns (taken ++ (now.waiting.items ++ unread)) form.has_header refl begun.first (parts.records ++ more.0) begun.header
                whole (all_parts parts.records more.0 parts.rows ∙ under),
            beyond unread (λ e. ap (λ l. map row_of (map (picked now.places) l)) (more.2 e)),
          );
    }

  -- all rows were taken
  all_within : (rows : List ReadRow) → AllByRecursion (λ row. is_within row.key None ≡ true) rows
  all_within [] = tt
  all_within (row ∷ rows) = (refl, all_within rows)

  spent_beyond : (now : Parts R) (taken : List ReadRow) → IsSpent now → (unread : List ReadRow) → (now.is_ended ≡ true → unread ≡ [])
      → IsBeyond None taken (now.waiting.items ++ unread)
  spent_beyond now taken spent unread none = ap₂ (λ xs ys. xs ++ ys) spent.1 (none spent.0)

  -- or those up to a key
  module _ (bound : Key) (now : Parts R) (taken : List ReadRow) (cut : IsCutAt bound taken now) where
    cut_within : AllByRecursion (λ row. is_within row.key (Some bound) ≡ true) taken
    cut_within =
        all_weaker (λ row. key_cmp row.key bound ≡ Greater → ⊥) (λ row. is_within row.key (Some bound) ≡ true) (λ row n. at_most_within (key_cmp row.key bound) n) taken
        cut.within

    -- the next row is greater than the last one
    last_less : (last : Key) (row : ReadRow) → now.last ≡ Some last → RisesTo (keys_in (taken ++ [])) now.last
        → IsStrictlySortedBy key_cmp (keys_in (taken ++ (row ∷ []))) → key_cmp last row.key ≡ Less
    last_less last row is rises sorted =
        let keys = last_key rem (keys_in (taken ++ [])) now.last last is rises in
        let split : keys_in (taken ++ (row ∷ [])) ≡ (keys.0 ++ (last ∷ [])) ++ (row.key ∷ []) =
        map-append (λ row. row.key) taken (row ∷ []) ∙ ap (λ l. keys_in l ++ (row.key ∷ [])) (sym (append-nil taken)) ∙ ap (λ l. l ++ (row.key ∷ [])) keys.1 in
        (last_below keys.0 (row.key ∷ []) last (subst (IsStrictlySortedBy key_cmp) split sorted)).0

    cut_beyond : (waiting : List ReadRow) → now.waiting.items ≡ waiting → RisesTo (keys_in (taken ++ waiting)) now.last → (unread : List ReadRow)
        → (now.is_ended ≡ true → unread ≡ []) → IsBeyond (Some bound) taken (waiting ++ unread)
    cut_beyond (row ∷ waiting) e rises unread none = λ sorted. (subst (AllByRecursion (λ row. key_cmp bound row.key ≡ Less)) e cut.beyond).0
    cut_beyond [] e rises [] none = tt
    cut_beyond [] e rises (row ∷ unread) none = λ sorted. elim cut.reached [
      | inl ended ↦ absurd (cc (none ended))
      | inr last ↦ at_most_less bound last.0 row.key last.2 (last_less last.0 row last.1 rises sorted)
    ]

  -- what is said of rows that were taken of two sources is said of those that they begin with
  module _ (how : Work) (tables : Two R) (start : TwoParts R) (left_placed : PlacesOf tables.first.source.value (left_columns how) start.left.places)
      (right_placed : PlacesOf tables.next.source.value (right_columns how) start.right.places)
      (left_begins : (d : ℕ) (c : Option ℕ) (text : List ℕ) (given : List (List (List ℕ))) → HasGiven d c rem text given tables.first.source.value
      → HasParts rem d c text given [] start.left)
      (right_begins : (d : ℕ) (c : Option ℕ) (text : List ℕ) (given : List (List (List ℕ))) → HasGiven d c rem text given tables.next.source.value
      → HasParts rem d c text given [] start.right) where
    said_first : (text : List ℕ) → SaysTaken rem how start text → SaysFirst rem how tables text
    said_first text h = elim h.cut [
      | inl spent ↦ record {
        bound = None;
        left = h.left;
        right = h.right;
        left_read = reads_first (left_columns how) tables.first.source.value start.left h.now.left h.left None left_placed left_begins h.left_taken (all_within h.left)
            (spent_beyond h.now.left h.left spent.0);
        right_read = reads_first (right_columns how) tables.next.source.value start.right h.now.right h.right None right_placed right_begins h.right_taken
            (all_within h.right) (spent_beyond h.now.right h.right spent.1);
        status = h.status;
        says = h.says;
      }
      | inr cut ↦ record {
        bound = Some cut.0;
        left = h.left;
        right = h.right;
        left_read = reads_first (left_columns how) tables.first.source.value start.left h.now.left h.left (Some cut.0) left_placed left_begins h.left_taken
            (cut_within cut.0 h.now.left h.left cut.1) (cut_beyond cut.0 h.now.left h.left cut.1 h.now.left.waiting.items refl h.left_taken.rises);
        right_read = reads_first (right_columns how) tables.next.source.value start.right h.now.right h.right (Some cut.0) right_placed right_begins h.right_taken
            (cut_within cut.0 h.now.right h.right cut.2) (cut_beyond cut.0 h.now.right h.right cut.2 h.now.right.waiting.items refl h.right_taken.rises);
        status = h.status;
        says = h.says;
      }
    ]

    pub tables_begun : (file : List ℕ) (before after : Option (List ℕ)) → PutsBeginning (SaysTaken rem how start) file before after
        → PutsBeginning (SaysFirst rem how tables) file before after
    tables_begun file before after h = begun_weaker (SaysTaken rem how start) (SaysFirst rem how tables) file before after said_first h
