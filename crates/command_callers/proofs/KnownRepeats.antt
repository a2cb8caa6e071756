-- What is told of two texts that are known, in the first of which a key stands twice.
use Rattle.std.proofs.Common.{◌≡◌, ◌∙◌, ◌⊎◌, ℕ, Bool, List, [], ◌∷◌, Option, None, Some, ap, inl, inr, map, refl, subst, subst₂, sym}
use Rattle.std.specs.Prelude.{IfSome, Ok, Result, codes}
use Rattle.csv.specs.Records.{field_at}
use Rattle.std.specs.Ordering.{is_eq}
use Rattle.eob_lists.proofs.MergeLemmas.{is_Equal}
use Rattle.eob_joins.proofs.TableLemmas.{by_test}
use Rattle.keyed_rows.specs.declared.row.ReadRow.{ReadRow}
use Rattle.keyed_rows.specs.declared.row.RepeatedKey.{RepeatedKey}
use Rattle.keyed_faults.specs.Outside.{IsApart}
use Rattle.keyed_faults.specs.declared.fault.Fault.{Fault}
use Rattle.keyed_faults.specs.declared.fault.Reason.{Reason}
use Rattle.keyed_faults.specs.declared.fault.Reason.TheVariants as reason
use Rattle.keyed_requests.specs.declared.request.Comparing.{Comparing}
use Rattle.keyed_requests.specs.declared.request.Form.{Form}
use Rattle.keyed_requests.specs.declared.request.Format.TheVariants.{Csv}
use Rattle.keyed_requests.specs.declared.request.Picked.TheVariants.{All}
use Rattle.keyed_requests.specs.declared.request.Settings.{Settings}
use Rattle.keyed_columns.specs.ColumnNames.{distinct}
use Rattle.keyed_columns.specs.Keys.{AreChangeColumns, first_name}
use Rattle.keyed_columns.specs.Names.{repeats}
use Rattle.keyed_columns.specs.declared.columns.Columns.{Columns}
use Rattle.keyed_columns.specs.declared.content.Content.TheVariants.{Rows}
use Rattle.keyed_files.specs.Explained.{ExplainsNamingAnew, ExplainsNewNames, ExplainsOpening, ExplainsRow, ExplainsSigned}
use Rattle.keyed_files.specs.Opening.{IsNamedAnew, IsRenamed, first_header, form_of, next_header, text_of_stream}
use Rattle.keyed_files.specs.Reading.{IsOpen, ReadsRows, parts_of}
use Rattle.keyed_files.specs.declared.opened.Opened.{Opened}
use Rattle.keyed_files.specs.declared.opened.Stream.{Stream}
use Rattle.keyed_files.specs.declared.opened.Two.{Two}
use Rattle.keyed_files.specs.declared.source.Source.{Source}
use Rattle.keyed_tables.specs.Repeated.{IsFirstRepeat, values_under}
use Rattle.keyed_jobs.specs.Answers.{key_cmp}
use Rattle.keyed_jobs.specs.Unread.{ExplainsTable}
use Rattle.keyed_jobs.proofs.AnswerLemmas.{key_exact}
use Rattle.keyed_commands.specs.DiffOnly.{AreChangeColumnsBy}
use Rattle.keyed_commands.specs.Unanswered.{AreDiffColumns, ExplainsDiff, OpensFile}
use Rattle.command_callers.specs.Repeats.{IfKeyRepeats}
use Rattle.command_callers.proofs.KnownTables.{IsKnown, IsPlain, columns_are, read_header, read_rows, rows_by}
use Rattle.command_callers.proofs.LiteralTexts.{id_a, one_x, one_y}

pub by-repeated : (told : Reason) (P : List (List ℕ) → Type 0) → ((repeated : RepeatedKey) → told ≡ reason.RepeatedKey repeated → P repeated.key) → IfKeyRepeats P told
by-repeated (reason.RepeatedKey repeated) P holds = holds repeated refl
by-repeated _ P holds = tt

-- the lines of the rows under a key
abbrev pub lines_under : List ReadRow → List (List ℕ) → List ℕ
lines_under rows k = values_under key_cmp (λ row. row.key) (λ row. row.line) rows k

-- the key of the first row, and of the next one, if there are
abbrev first-key : List (List (List ℕ) × List (List ℕ)) → List (List ℕ) → List (List ℕ)
first-key [] key = key
first-key (row ∷ rows) key = row.0

abbrev next-key : List (List (List ℕ) × List (List ℕ)) → List (List ℕ) → List (List ℕ)
next-key [] key = key
next-key (row ∷ rows) key = first-key rows key

-- of two rows with one key this is the one that stands twice
pub two-alike : (rows : List ReadRow) (key k x y : List (List ℕ)) (a b : ℕ) (rest : List ℕ) → map parts_of rows ≡ (key, x) ∷ (key, y) ∷ [] → lines_under rows k ≡ a ∷ b ∷ rest → k ≡ key
two-alike [] key k x y a b rest parts twice = absurd (cc parts)
two-alike (row ∷ []) key k x y a b rest parts twice = absurd (cc parts)
two-alike (row ∷ other ∷ []) key k x y a b rest parts twice =
    let first : row.key ≡ key = ap (λ l. first-key l key) parts in
    let next : other.key ≡ key = ap (λ l. next-key l key) parts in
    by_test (is_eq (key_cmp k row.key))
    (λ t. key_exact k row.key (is_Equal (key_cmp k row.key) t) ∙ first)
    (λ f. by_test (is_eq (key_cmp k other.key)) (λ t. key_exact k other.key (is_Equal (key_cmp k other.key) t) ∙ next)
    (λ g. let none : [] ≡ a ∷ b ∷ rest = rw (f, g) at twice in absurd (cc none)))
two-alike (row ∷ other ∷ third ∷ rows) key k x y a b rest parts twice = absurd (cc parts)

-- and of one row none
pub one-alone : (rows : List ReadRow) (key k x : List (List ℕ)) (a b : ℕ) (rest : List ℕ) → map parts_of rows ≡ (key, x) ∷ [] → lines_under rows k ≡ a ∷ b ∷ rest → ⊥
one-alone [] key k x a b rest parts twice = absurd (cc parts)
one-alone (row ∷ []) key k x a b rest parts twice =
    by_test (is_eq (key_cmp k row.key))
    (λ t. let one : row.line ∷ [] ≡ a ∷ b ∷ rest = rw t at twice in absurd (cc one))
    (λ f. let none : [] ≡ a ∷ b ∷ rest = rw f at twice in absurd (cc none))
one-alone (row ∷ other ∷ rows) key k x a b rest parts twice = absurd (cc parts)

-- where columns get no other names, none is to blame for them, and a source stays as it is
pub naming-never : {R : Type 0} (settings : Settings) (source : Source R) (told : Reason) → settings.key ≡ None → settings.renames ≡ None
    → ExplainsNamingAnew settings source told → ⊥
naming-never settings source told key renames (inl why) = subst (λ k. ExplainsNewNames k source told) key why
naming-never settings source told key renames (inr why) = subst (λ k. ExplainsNewNames k why.0 told) renames why.2

pub named-same : {R : Type 0} (settings : Settings) (old new : Source R) → settings.key ≡ None → settings.renames ≡ None → IsNamedAnew settings old new → new ≡ old
named-same settings old new key renames why = subst (λ k. IsRenamed k why.0 new) renames why.2 ∙ subst (λ k. IsRenamed k old why.0) key why.1

-- a stream that is open is not to blame for a key
pub opening-never : {R : Type 0} (reader : Result R Reason) (inner : R) (told : Reason) (repeated : RepeatedKey) → reader ≡ Ok inner → told ≡ reason.RepeatedKey repeated
    → ExplainsOpening reader told → ⊥
opening-never reader inner told repeated is same why = subst₂ (λ r t. ExplainsOpening r t) is same why

row-never : {R : Type 0} (source : Source R) (repeated : RepeatedKey)
    → (ExplainsRow source (reason.RepeatedKey repeated) ⊎ ExplainsSigned source (reason.RepeatedKey repeated)) → ⊥
row-never source repeated (inl why) = why
row-never source repeated (inr why) = why

module _ {R : Type 0} (rem : R → Option (List ℕ)) where
  -- where a table is not read since a key stands twice, its rows are those of the text
  pub repeated-rows : (groups : Bool) (columns : Columns) (source : Source R) (repeated : RepeatedKey) → ExplainsTable rem groups columns source (reason.RepeatedKey repeated)
      → (rows : List ReadRow) × ReadsRows rem columns source [] rows × IsFirstRepeat key_cmp (λ row. row.key) (λ row. row.line) rows repeated.key repeated.first repeated.second
  repeated-rows groups columns source repeated (inl (inl (inl memory))) = absurd (cc memory)
  repeated-rows groups columns source repeated (inl (inl (inr why))) = absurd why.2
  repeated-rows groups columns source repeated (inl (inr rows)) = absurd (row-never rows.now repeated rows.row)
  repeated-rows groups columns source repeated (inr (rows, reads, gathers)) = (rows, reads, gathers.1)

  module _ (form : Form) (stream : Stream R) (opened : Opened R) (text : List ℕ) (fields : List (List ℕ)) (records : List (List (List ℕ)))
      (has : text_of_stream rem form stream ≡ Some text) (known : IsKnown (form_of form stream) text fields records) (opens : OpensFile rem rem form Rows stream opened) where
    is-open : IsOpen (form_of form stream) Rows rem text opened.source.value.header.names opened.source.value
    is-open = subst (λ m. IfSome m (λ t. IsOpen (form_of form stream) Rows rem t opened.source.value.header.names opened.source.value)) has opens.reads

    -- the rows of a text that is known
    pub known-header : (columns : Columns) (rows : List ReadRow) → ReadsRows rem columns opened.source.value [] rows → opened.source.value.header.names ≡ fields
    known-header columns rows reads =
        let said = reads (form_of form stream) Rows text opened.source.value.header.names is-open in
        read_header (form_of form stream) text fields records known opened.source.value.header.names opened.source.value.header.names columns said.0 said.2

    pub known-rows : (columns : Columns) (rows : List ReadRow) (reads : ReadsRows rem columns opened.source.value [] rows)
        → map parts_of rows ≡ rows_by fields columns.key columns.rest records
    known-rows columns rows reads =
        let names = opened.source.value.header.names in
        let said = reads (form_of form stream) Rows text names is-open in
        ap (map parts_of) said.1
        ∙ read_rows (form_of form stream) text fields records known names names columns said.0 said.2 fields columns.key columns.rest (known-header columns rows reads) refl refl

-- of two texts in the first of which a key stands twice, where it is told that one does it is this one
module _ {R : Type 0} (rem : R → Option (List ℕ)) (settings : Settings) (how : Comparing) (old new : Stream R) (plain : IsPlain settings)
    (csv : how.format ≡ Csv) (all : how.view.columns ≡ All) (old_inner new_inner : R) (old_is : old.reader ≡ Ok old_inner) (new_is : new.reader ≡ Ok new_inner)
    (old_text new_text : List ℕ) (old_has : text_of_stream rem settings.form old ≡ Some old_text) (new_has : text_of_stream rem settings.form new ≡ Some new_text)
    (old_known : IsKnown (form_of settings.form old) old_text id_a (one_x ∷ one_y ∷ [])) (new_known : IsKnown (form_of settings.form new) new_text id_a (one_x ∷ [])) where
  key-is : (two : Two R) (columns : Columns) → AreDiffColumns how settings two columns → first_header two ≡ id_a → columns.key ≡ codes "id" ∷ []
  key-is two columns are header =
      let changed : AreChangeColumns settings.key (first_header two) (next_header two) columns =
      subst (λ by. AreChangeColumnsBy by settings.key (first_header two) (next_header two) columns) all (are.csv csv) in
      (columns_are settings.key (first_header two ∷ next_header two ∷ []) (next_header two ∷ first_header two ∷ []) columns plain.key changed).key
      ∙ ap (λ h. first_name (h ∷ next_header two ∷ [])) header

  pub twice-told : (fault : Fault) (repeated : RepeatedKey) → fault.reason ≡ reason.RepeatedKey repeated → ExplainsDiff rem settings how old new fault
      → (fault.file ≡ old.file) × (repeated.key ≡ codes "1" ∷ [])
  unfolding distinct field_at repeats
  twice-told fault repeated is (inl (inl one)) = absurd (opening-never old.reader old_inner fault.reason repeated old_is is one.1)
  twice-told fault repeated is (inl (inr one)) = absurd (opening-never new.reader new_inner fault.reason repeated new_is is one.2)
  twice-told fault repeated is (inr (inl anew)) = absurd (naming-never settings anew.1.0.source.value fault.reason plain.key plain.renames anew.1.3)
  twice-told fault repeated is (inr (inr (two, first, next, inl apart))) = let never : ⊥ = subst IsApart is apart.0 in absurd never
  twice-told fault repeated is (inr (inr (two, first, next, inr (columns, are, inl (file, table))))) =
      let source = two.first.source.value in
      let same : source ≡ first.before.source.value = named-same settings first.before.source.value source plain.key plain.renames first.anew in
      let found = repeated-rows rem settings.groups columns source repeated (subst (ExplainsTable rem settings.groups columns source) is table) in
      let reads = subst (λ s. ReadsRows rem columns s [] found.0) same found.1 in
      let header = ap (λ s. s.header.names) same
      ∙ known-header rem settings.form old first.before old_text id_a (one_x ∷ one_y ∷ []) old_has old_known first.opens columns found.0 reads in
      let parts = known-rows rem settings.form old first.before old_text id_a (one_x ∷ one_y ∷ []) old_has old_known first.opens columns found.0 reads in (
        file ∙ first.named,
        two-alike found.0 (codes "1" ∷ []) repeated.key _ _ repeated.first repeated.second found.2.twice.0
            (parts ∙ ap (λ k. rows_by id_a k columns.rest (one_x ∷ one_y ∷ [])) (key-is two columns are header)) found.2.twice.1,
      )
  twice-told fault repeated is (inr (inr (two, first, next, inr (columns, are, inr (file, table))))) =
      let source = two.next.source.value in
      let found = repeated-rows rem settings.groups columns source repeated (subst (ExplainsTable rem settings.groups columns source) is table) in
      let parts = known-rows rem settings.form new two.next new_text id_a (one_x ∷ []) new_has new_known next columns found.0 found.1 in
      absurd (one-alone found.0 _ repeated.key _ repeated.first repeated.second found.2.twice.0 parts found.2.twice.1)
