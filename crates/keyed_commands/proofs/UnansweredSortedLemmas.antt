-- Why tables that are read part by part are not read to the end, by what their steps say.
use Rattle.std.proofs.Common.{◌≡◌, ◌∙◌, ◌++◌, ◌⊎◌, ℕ, true, false, List, [], ◌∷◌, Option, ap, filter, inl, inr, map, refl, subst, subst₂, sym}
use Rattle.std.specs.Prelude.{Err, IfErr, Result}
use Rattle.std.specs.List.{AllByRecursion}
use Rattle.std.specs.List.Sorted.{IsStrictlySortedBy}
use Rattle.std.specs.Ordering.{is_eq}
use Rattle.std.specs.declared.cmp.Ordering.{Ordering}
use Rattle.std.specs.declared.cmp.Ordering.TheVariants.{Less, Equal, Greater}
use Rattle.std.proofs.lemmas.List.{map-append}
use Rattle.eob_joins.proofs.TableLemmas.{by_test}
use Rattle.keyed_rows.specs.declared.row.ReadRow.{ReadRow}
use Rattle.keyed_rows.specs.declared.row.UniqueError.{UniqueError}
use Rattle.keyed_rows.specs.declared.row.UniqueError.TheVariants as unique
use Rattle.keyed_faults.specs.Outside.{IsApart, reason_of}
use Rattle.keyed_faults.specs.declared.fault.Fault.{Fault}
use Rattle.keyed_faults.specs.declared.fault.Reason.{Reason}
use Rattle.keyed_faults.specs.declared.fault.Reason.TheVariants as reason
use Rattle.keyed_requests.specs.declared.request.Layout.{Layout}
use Rattle.keyed_requests.specs.declared.request.SortedChanges.{SortedChanges}
use Rattle.keyed_columns.specs.Keys.{AreJoinColumns}
use Rattle.keyed_columns.specs.declared.columns.Columns.{Columns}
use Rattle.keyed_columns.specs.declared.columns.JoinColumns.{JoinColumns}
use Rattle.keyed_columns.specs.declared.content.Content.TheVariants.{Rows}
use Rattle.keyed_files.specs.Opening.{IsRenamed, first_header, next_header}
use Rattle.keyed_files.specs.Parts.{Fills, HasParts, TakesUpTo, keys_in}
use Rattle.keyed_files.specs.Reading.{HasGiven, PlacesOf}
use Rattle.keyed_files.specs.declared.opened.Opened.{Opened}
use Rattle.keyed_files.specs.declared.opened.Stream.{Stream}
use Rattle.keyed_files.specs.declared.opened.Two.{Two}
use Rattle.keyed_files.specs.declared.parts.Parts.{Parts}
use Rattle.keyed_tables.specs.Repeated.{IfRepeated, IsFirstRepeat}
use Rattle.keyed_jobs.specs.Answers.{key_cmp}
use Rattle.keyed_jobs.specs.Unread.{ExplainsGathering}
use Rattle.keyed_jobs.proofs.AnswerLemmas.{key_exact}
use Rattle.keyed_commands.specs.SortedParts.{HasTaken, IsFresh}
use Rattle.keyed_commands.specs.Unanswered.{IsAmong, IsApartOf, OpensFile, files_of}
use Rattle.keyed_commands.specs.UnansweredSorted.{AreSortedColumns, ExplainsDiffSorted, ExplainsLater, ExplainsParts, ExplainsRisingSides, ExplainsRisingTables, ExplainsRisingVersions, ExplainsTaking, ExplainsTakingNext, ExplainsWriting, IsOfOne, IsUnread, files_in}
use Rattle.keyed_commands.specs.declared.sorted.TwoParts.{TwoParts}
use Rattle.keyed_commands.proofs.PartReadLemmas.{rises_sorted, sorted_after, sorted_first, taken_filled}

-- keys that are tied are the same
is-equal : (r : Ordering) → is_eq r ≡ true → r ≡ Equal
is-equal Less e = absurd (cc)
is-equal Equal e = refl
is-equal Greater e = absurd (cc)

less-other : (r : Ordering) → r ≡ Less → is_eq r ≡ false
less-other Less e = refl
less-other Equal e = absurd (cc)
less-other Greater e = absurd (cc)

-- the lines of the rows under a key
abbrev lines_under : List ReadRow → List (List ℕ) → List ℕ
lines_under rows key = map (λ row. row.line) (filter (λ row. is_eq (key_cmp key row.key)) rows)

-- no row is under a key that is less than that of each
none-under : (rows : List ReadRow) (key : List (List ℕ)) → AllByRecursion (λ k. key_cmp key k ≡ Less) (keys_in rows) → lines_under rows key ≡ []
none-under [] key less = refl
none-under (row ∷ rows) key less = rw (less-other (key_cmp key row.key) less.0) (none-under rows key less.1)

not-twice : (line first second : ℕ) (rest : List ℕ) → line ∷ [] ≡ first ∷ second ∷ rest → ⊥
not-twice line first second rest e = absurd (cc)

-- where keys are strictly increasing no two rows are under one
pub once-under : (rows : List ReadRow) (key : List (List ℕ)) (first second : ℕ) (rest : List ℕ) → IsStrictlySortedBy key_cmp (keys_in rows)
    → lines_under rows key ≡ first ∷ second ∷ rest → ⊥
unfolding IsStrictlySortedBy
once-under [] key first second rest sorted e = absurd (cc)
once-under (row ∷ rows) key first second rest sorted e =
    by_test (is_eq (key_cmp key row.key))
    (λ t. let same : key ≡ row.key = key_exact key row.key (is-equal (key_cmp key row.key) t) in
    let none : lines_under rows key ≡ [] = none-under rows key (subst (λ k. AllByRecursion (λ other. key_cmp k other ≡ Less) (keys_in rows)) (sym same) sorted.0) in
    let one : lines_under (row ∷ rows) key ≡ row.line ∷ lines_under rows key = rw t refl in
    not-twice row.line first second rest (sym (one ∙ ap (λ l. row.line ∷ l) none) ∙ e))
    (λ f. let others : lines_under (row ∷ rows) key ≡ lines_under rows key = rw f refl in
    once-under rows key first second rest sorted.1 (sym others ∙ e))

-- rows whose keys are strictly increasing are gathered unless memory is refused
pub rising-gathered : (rows : List ReadRow) (told : Reason) → IsStrictlySortedBy key_cmp (keys_in rows) → ExplainsGathering false rows told → IsApart told
rising-gathered rows (reason.RepeatedKey repeated) sorted why =
    let twice = why.1.twice in
    absurd (once-under rows repeated.key repeated.first repeated.second twice.0 sorted twice.1)
rising-gathered rows reason.NoMemory sorted why = tt
rising-gathered rows _ sorted why = absurd why

told-gathering : (rows : List ReadRow) (error : UniqueError) → IfRepeated (IsFirstRepeat key_cmp (λ row. row.key) (λ row. row.line) rows) error
    → ExplainsGathering false rows (reason_of error)
told-gathering rows unique.NoMemory why = tt
told-gathering rows (unique.RepeatedKey repeated) why = (refl, why)

-- rows are not gathered, as a fault tells
pub gathering-told : {T : Type 0} (rows : List ReadRow) (outcome : Result T UniqueError) (fault : Fault)
    → (error : UniqueError) × (outcome ≡ Err error) × (fault.reason ≡ reason_of error)
    → IfErr outcome (IfRepeated (IsFirstRepeat key_cmp (λ row. row.key) (λ row. row.line) rows)) → ExplainsGathering false rows fault.reason
gathering-told rows outcome fault same why =
    subst (ExplainsGathering false rows) (sym same.2)
    (told-gathering rows same.0 (subst (λ o. IfErr o (IfRepeated (IsFirstRepeat key_cmp (λ row. row.key) (λ row. row.line) rows))) same.1 why))

-- the file of a table of which rows are taken is the same
pub kept-file : {R : Type 0} (bound : Option (List (List ℕ))) (old new : Parts R) (rows : List ReadRow) → TakesUpTo bound old new rows → new.file ≡ old.file
kept-file {R} bound old new rows takes = ap (λ (p : Parts R). p.file) takes.0.same

module _ {R : Type 0} (rem : R → Option (List ℕ)) where
  -- rows that wait after others are read are not taken
  pub next-untaken : (old read : TwoParts R) (fault : Fault) → Fills rem old.left read.left → Fills rem old.right read.right → IsOfOne ExplainsTaking read fault
      → IsOfOne (ExplainsTakingNext rem) old fault
  next-untaken old read fault left right (inl one) = inl (one.0 ∙ left.named, inr (read.left, left, one.1))
  next-untaken old read fault left right (inr one) = inr (one.0 ∙ right.named, inr (read.right, right, one.1))

  module _ (start : Parts R) (taken : List ReadRow) (told : Reason) where
    waiting-sorted : (read : Parts R) → HasTaken rem start read taken → IsStrictlySortedBy key_cmp (keys_in read.waiting.items)
    waiting-sorted read h =
        sorted_after (keys_in taken) (keys_in read.waiting.items)
        (subst (IsStrictlySortedBy key_cmp) (map-append (λ row. row.key) taken read.waiting.items) (rises_sorted (keys_in (taken ++ read.waiting.items)) read.last h.rises))

    -- of rows whose keys are strictly increasing none is to blame that they are not taken
    untaken-apart : (read : Parts R) → HasTaken rem start read taken → ExplainsTaking read told → IsApart told
    untaken-apart read h (inl apart) = apart
    untaken-apart read h (inr some) =
        let both = subst (λ l. IsStrictlySortedBy key_cmp (keys_in l)) some.2 (waiting-sorted read h) in
        rising-gathered some.0 told
        (sorted_first (keys_in some.0) (keys_in some.1) (subst (IsStrictlySortedBy key_cmp) (map-append (λ row. row.key) some.0 some.1) both)) some.3

    -- why the next rows are not taken is why those of the whole table are not read
    later-told : (now : Parts R) → HasTaken rem start now taken → ExplainsTakingNext rem now told → IsApart told ⊎ ExplainsLater rem start told
    later-told now h (inl part) =
        inr (record { now = part.0; taken = taken; read = taken_filled rem start now part.0 taken h part.1; going = part.2; next = part.3 })
    later-told now h (inr some) = inl (untaken-apart some.0 (taken_filled rem start now some.0 taken h some.1) some.2)

  module _ (start mid : TwoParts R) (left right : List ReadRow) (fault : Fault) (hl : HasTaken rem start.left mid.left left) (hr : HasTaken rem start.right mid.right right) where
    left-told : fault.file ≡ start.left.file → (IsApart fault.reason ⊎ ExplainsLater rem start.left fault.reason) → ExplainsParts rem start fault
    left-told file (inl apart) = inl (apart, inl file)
    left-told file (inr later) = inr (inr (inl (file, later)))

    right-told : fault.file ≡ start.right.file → (IsApart fault.reason ⊎ ExplainsLater rem start.right fault.reason) → ExplainsParts rem start fault
    right-told file (inl apart) = inl (apart, inr (inl file))
    right-told file (inr later) = inr (inr (inr (file, later)))

    -- why the next part of two tables is not written is why the whole is not
    pub parts-untold : ExplainsWriting (files_in mid) (IsOfOne (ExplainsTakingNext rem) mid fault) fault → ExplainsParts rem start fault
    parts-untold (inl apart) = inl (apart.0, subst₂ (λ first next. IsAmong (first ∷ next ∷ []) fault.file) hl.named hr.named apart.1)
    parts-untold (inr (inl output)) = inr (inl output)
    parts-untold (inr (inr (inl one))) = left-told (one.0 ∙ hl.named) (later-told start.left left fault.reason mid.left hl one.1)
    parts-untold (inr (inr (inr one))) = right-told (one.0 ∙ hr.named) (later-told start.right right fault.reason mid.right hr one.1)

  -- no row of a table is read yet under columns
  pub unread-yet : (columns : Columns) (table : Opened R) (start : Parts R) → start.source ≡ table.source → PlacesOf table.source.value columns start.places → IsFresh start
      → ((d : ℕ) (c : Option ℕ) (text : List ℕ) (given : List (List (List ℕ))) → HasGiven d c rem text given table.source.value → HasParts rem d c text given [] start)
      → IsUnread rem columns table.source.value start
  unread-yet columns table start same places fresh begins = record { same = rw same refl; places = places; fresh = fresh; begins = begins }

  -- the same of the sources of the tables
  pub tables-untold : (left_columns right_columns : Columns) (tables : Two R) (start : TwoParts R) (fault : Fault)
      → start.left.file ≡ tables.first.file → start.right.file ≡ tables.next.file → IsUnread rem left_columns tables.first.source.value start.left
      → IsUnread rem right_columns tables.next.source.value start.right → ExplainsParts rem start fault
      → ExplainsRisingTables rem left_columns right_columns tables fault
  tables-untold left_columns right_columns tables start fault left_named right_named left right (inl apart) =
      inl (apart.0, subst₂ (λ first next. IsAmong (first ∷ next ∷ []) fault.file) left_named right_named apart.1)
  tables-untold left_columns right_columns tables start fault left_named right_named left right (inr (inl output)) = inr (inl output)
  tables-untold left_columns right_columns tables start fault left_named right_named left right (inr (inr (inl one))) =
      inr (inr (inl (one.0 ∙ left_named, inr (start.left, left, one.1))))
  tables-untold left_columns right_columns tables start fault left_named right_named left right (inr (inr (inr one))) =
      inr (inr (inr (one.0 ∙ right_named, inr (start.right, right, one.1))))

  -- under columns of some kind
  pub versions-untold : (are : Columns → Type 0) (columns : Columns) (versions : Two R) (fault : Fault) → are columns
      → ExplainsRisingTables rem columns columns versions fault → ExplainsRisingVersions rem are versions fault
  versions-untold are columns versions fault kind (inl apart) = inl apart
  versions-untold are columns versions fault kind (inr (inl output)) = inr (inl output)
  versions-untold are columns versions fault kind (inr (inr rows)) = inr (inr (columns, kind, rows))

  -- under the columns of a join
  pub sides-untold : (layout : Layout) (columns : JoinColumns) (sides : Two R) (fault : Fault) → AreJoinColumns layout.key (first_header sides) (next_header sides) columns
      → ExplainsRisingTables rem columns.left columns.right sides fault → IsApartOf (files_of sides) fault ⊎ ExplainsRisingSides rem layout fault sides
  sides-untold layout columns sides fault are (inl apart) = inl apart
  sides-untold layout columns sides fault are (inr (inl output)) = inr (inl output)
  sides-untold layout columns sides fault are (inr (inr rows)) = inr (inr (columns, are, rows))

  -- of two streams whose headers are read
  pub diff-untold : (layout : Layout) (how : SortedChanges) (old new : Stream R) (fault : Fault) (versions named : Two R) → OpensFile rem rem layout.form Rows old versions.first
      → OpensFile rem rem layout.form Rows new versions.next → named.first ≡ record versions.first { source = named.first.source } → named.next ≡ versions.next
      → IsRenamed layout.key versions.first.source.value named.first.source.value → ExplainsRisingVersions rem (AreSortedColumns layout how named) named fault
      → ExplainsDiffSorted rem layout how old new fault
  diff-untold layout how old new fault versions named first next same kept renamed why =
      inr (inr (
        named,
        record { before = versions.first; opens = first; named = ap (λ (table : Opened R). table.file) same ∙ first.named; renamed = renamed },
        subst (OpensFile rem rem layout.form Rows new) (sym kept) next,
        why,
      ))
