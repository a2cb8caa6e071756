-- What `overlay` answers of one text of two rows, where rows come out in the order of the file.
use Rattle.std.proofs.Common.{◌≡◌, ◌∙◌, ◌<◌, ℕ, suc, zero, Bool, true, false, List, [], ◌∷◌, arith, filter, map, nat_eq, IsPermutation, Option, None, Some, ap, refl, subst, sym, true≢false, inl, inr}
use Rattle.std.specs.Prelude.{◌⊎◌, ⊤, IfSome, IsSome, position}
use Rattle.std.specs.Cmp.Lexicographic.{pointwise}
use Rattle.std.specs.List.{AllZip, flat_map, swap}
use Rattle.std.specs.List.Sorted.{IsSortedBy, SwapsInRange, apply_swaps}
use Rattle.std.specs.Option.{option_cmp}
use Rattle.std.specs.Ordering.{is_lt, nat_cmp}
use Rattle.std.proofs.lemmas.List.{append-nil}
use Rattle.eob_lists.proofs.MergeLemmas.{Up}
use Rattle.eob_joins.proofs.TableLemmas.{same_table}
use Rattle.keyed_text.specs.declared.style.Style.{Style}
use Rattle.keyed_requests.specs.AnswerForm.{in_style}
use Rattle.keyed_requests.specs.FormBytes.{comment_of, delimiter_of}
use Rattle.keyed_requests.specs.declared.overlays.Layer.{Layer}
use Rattle.keyed_requests.specs.declared.request.Form.{Form}
use Rattle.keyed_requests.specs.declared.request.Settings.{Settings}
use Rattle.keyed_columns.specs.ColumnNames.{HaveNames, column_names, is_beside, place_under_key}
use Rattle.keyed_columns.specs.Keys.{AreColumnsBy, first_name}
use Rattle.keyed_columns.specs.CellsUnder.{cell_under}
use Rattle.keyed_columns.specs.Spelled.{IsSpelledAs, SpelledOf}
use Rattle.keyed_columns.specs.declared.columns.Columns.{Columns}
use Rattle.keyed_columns.specs.declared.columns.Place.{Place}
use Rattle.keyed_columns.specs.declared.content.Content.TheVariants.{Rows}
use Rattle.keyed_files.specs.Opening.{form_of, text_of_stream}
use Rattle.keyed_files.specs.Reading.{behind_header}
use Rattle.keyed_files.specs.declared.opened.Stream.{Stream}
use Rattle.keyed_tables.specs.Gathered.{alone}
use Rattle.keyed_text.proofs.TextLemmas.{rows-once}
use Rattle.keyed_jobs.specs.Answers.{IsTableFile, TableRows, key_cmp}
use Rattle.keyed_jobs.specs.ComeOut.{AlikeRows, HasGroups}
use Rattle.keyed_jobs.specs.FileOrder.{Keys, KeysOf, noted_keys}
use Rattle.keyed_jobs.specs.NotedStyles.{IsStyleOf}
use Rattle.keyed_jobs.specs.TablesRead.{AreNames, SaysTable}
use Rattle.keyed_jobs.specs.declared.answer.Answer.{Answer}
use Rattle.keyed_jobs.proofs.AnswerLemmas.{key_exact, key_total}
use Rattle.keyed_commands.specs.OverlayAnswers.{AreKnown, AreLaidOver, AreNamed, OverlaidIn, OverlaysStreams, Said, SaysRows, SpellsFirst, StylesFirst, laid_under}
use Rattle.keyed_commands.proofs.OverlayLemmas.{laid_alone}
use Rattle.command_callers.specs.Answered.{IsButForEnd, IsInStyle}
use Rattle.command_callers.proofs.KnownLayers.{restyled}
use Rattle.command_callers.proofs.KnownRows.{alone_rise}
use Rattle.command_callers.proofs.KnownStyles.{IsStyled, named_style}
use Rattle.command_callers.proofs.KnownTables.{IsKnown, KeyedRows, columns_are, header_is, heads_plainly, plain_names, rows_by, table_is, IsTableFileOf, table_file_shown}

-- two things are moved: they stand as they stood, or the other way about
swap_two : {X : Type 0} (a b : X) (i j : ℕ) → i < 2 → j < 2 → (swap (a ∷ b ∷ []) i j ≡ a ∷ b ∷ []) ⊎ (swap (a ∷ b ∷ []) i j ≡ b ∷ a ∷ [])
swap_two a b zero zero p q = inl refl
swap_two a b zero (suc zero) p q = inr refl
swap_two a b (suc zero) zero p q = inr refl
swap_two a b (suc zero) (suc zero) p q = inl refl
swap_two a b zero (suc (suc j)) p q = absurd (omega arith)
swap_two a b (suc zero) (suc (suc j)) p q = absurd (omega arith)
swap_two a b (suc (suc i)) j p q = absurd (omega arith)

turned : {P Q : Type 0} → P ⊎ Q → Q ⊎ P
turned (inl p) = inr p
turned (inr q) = inl q

moved_two : {X : Type 0} (a b : X) (moves : List (ℕ × ℕ)) → SwapsInRange 2 moves
    → (apply_swaps (a ∷ b ∷ []) moves ≡ a ∷ b ∷ []) ⊎ (apply_swaps (a ∷ b ∷ []) moves ≡ b ∷ a ∷ [])
moved_two a b [] within = inl refl
moved_two {X} a b (p ∷ moves) within =
    let P : List X → Type 0 = λ l. (swap l p.0 p.1 ≡ a ∷ b ∷ []) ⊎ (swap l p.0 p.1 ≡ b ∷ a ∷ []) in
    elim (moved_two a b moves within.2) [
      | inl e ↦ subst P (sym e) (swap_two a b p.0 p.1 within.0 within.1)
      | inr e ↦ subst P (sym e) (turned (swap_two b a p.0 p.1 within.0 within.1))
    ]

-- the one that stands before the other by a test is the first of two that are sorted by it
sorted_two : {X : Type 0} (lt : X → X → Bool) (a b : X) (ys : List X) → IsPermutation (a ∷ b ∷ []) ys → IsSortedBy lt ys → lt b a ≡ true → ys ≡ b ∷ a ∷ []
sorted_two lt a b ys moved sorted before = elim (moved_two a b moved.moves moved.below) [
  | inl e ↦
      let kept : IsSortedBy lt (a ∷ b ∷ []) = subst (IsSortedBy lt) (moved.is ∙ e) sorted in
      absurd (true≢false (sym before ∙ kept 0 a (omega arith) (omega arith)))
  | inr e ↦ moved.is ∙ e
]

-- one thing can't be moved
swap_one : {X : Type 0} (a : X) (i j : ℕ) → i < 1 → j < 1 → swap (a ∷ []) i j ≡ a ∷ []
swap_one a zero zero p q = refl
swap_one a zero (suc j) p q = absurd (omega arith)
swap_one a (suc i) j p q = absurd (omega arith)

moved_one : {X : Type 0} (a : X) (moves : List (ℕ × ℕ)) → SwapsInRange 1 moves → apply_swaps (a ∷ []) moves ≡ a ∷ []
moved_one a [] within = refl
moved_one a (p ∷ moves) within = ap (λ l. swap l p.0 p.1) (moved_one a moves within.2) ∙ swap_one a p.0 p.1 within.0 within.1

-- groups of one row each are as they were
abbrev AlikeGroups : TableRows → TableRows → Type 0
AlikeGroups xs ys = AllZip (λ x y. (x.0 ≡ y.0) × AlikeRows x.1 y.1) xs ys

group_same : (key row : List (List ℕ)) (other : List (List ℕ) × List (List (List ℕ))) → (key ≡ other.0) × AlikeRows (row ∷ []) other.1 → other ≡ (key, row ∷ [])
group_same key row other h = ap (λ k. (k, other.1)) (sym h.0) ∙ ap (λ rows. (key, rows)) (h.1.is ∙ moved_one row h.1.moves h.1.below)

groups_same : (a b : List (List ℕ) × List (List ℕ)) (shown : TableRows) → AlikeGroups (alone a ∷ alone b ∷ []) shown → shown ≡ alone a ∷ alone b ∷ []
groups_same a b [] h = absurd h
groups_same a b (x ∷ []) h = absurd h.1
groups_same a b (x ∷ y ∷ []) h = ap (λ z. z ∷ y ∷ []) (group_same a.0 a.1 x h.0) ∙ ap (λ z. alone a ∷ z ∷ []) (group_same b.0 b.1 y h.1.0)
groups_same a b (x ∷ y ∷ z ∷ more) h = absurd h.1.1

come_out : (a b : List (List ℕ) × List (List ℕ)) (by_cells : Bool) (arranged shown : TableRows) → arranged ≡ alone a ∷ alone b ∷ []
    → HasGroups by_cells AlikeRows arranged shown → shown ≡ alone a ∷ alone b ∷ []
come_out a b true arranged shown is same = same ∙ is
come_out a b false arranged shown is alike = groups_same a b shown (subst (λ l. AlikeGroups l shown) is alike)

-- what `overlay` answers of one text
pub record OverlaysText (settings : Settings) (layer : Layer) (form : Form) (text : List ℕ) (answer : Answer) : Type 0 where
  pub columns : Columns
  pub said : Said
  pub named : AreNames settings.key said.header said.names
  pub columned : AreColumnsBy settings.key (said.names ∷ []) (said.names ∷ []) columns
  pub says : SaysTable form Rows settings.groups text said.header said.names columns said.rows
  pub spelled : SpelledOf form Rows text said.spelled
  pub keyed : KeysOf form Rows text said.names columns said.keys
  pub spells : IsSpelledAs said.header said.spelled columns
  pub headed : form.has_header ≡ settings.form.has_header
  pub overlaid : OverlaidIn layer (IsStyleOf form settings.form.writing.heading text) settings.form columns (settings.keeps_order ≡ false) (said.rows ∷ []) answer
  pub ordered : overlaid.keys ≡ noted_keys settings.keeps_order said.keys

module _ {R : Type 0} (rem : R → Option (List ℕ)) (settings : Settings) (layer : Layer) (table : Stream R) (text : List ℕ) (answer : Answer)
    (told : OverlaysStreams rem settings layer (table ∷ []) answer) (is : text_of_stream rem settings.form table ≡ Some text) where
  abbrev form : Form
  form = form_of settings.form table

  one : (said : List Said) → AreNamed settings.key said
      → AreColumnsBy settings.key (map (λ table. table.names) said) (map (λ table. table.names) said) told.columns
      → AllZip (SaysRows rem settings told.columns) (table ∷ []) said → SpellsFirst rem settings told.columns (table ∷ []) said
      → (laid : OverlaidIn layer (StylesFirst rem settings (table ∷ [])) settings.form told.columns (settings.keeps_order ≡ false) (map (λ table. table.rows) said) answer)
      → (AreKnown rem settings (table ∷ []) → laid.keys ≡ noted_keys settings.keeps_order (flat_map (λ table. table.keys) said)) → OverlaysText settings layer form text answer
  one [] named columned says spells laid ordered = absurd says
  one (first ∷ []) named columned says spells laid ordered =
      let known : SaysTable form Rows settings.groups text first.header first.names told.columns first.rows × SpelledOf form Rows text first.spelled
      × KeysOf form Rows text first.names told.columns first.keys =
      subst (λ m. IfSome m (λ t. SaysTable form Rows settings.groups t first.header first.names told.columns first.rows × SpelledOf form Rows t first.spelled
      × KeysOf form Rows t first.names told.columns first.keys)) is says.0 in
      let there : IsSome (text_of_stream rem settings.form table) = subst (λ m. IsSome m) (sym is) refl in
      record {
        columns = told.columns;
        said = first;
        named = named.0;
        columned = columned;
        says = known.0;
        spelled = known.1;
        keyed = known.2;
        spells = subst (λ m. IfSome m (λ t. IsSpelledAs first.header first.spelled told.columns)) is spells;
        headed = refl;
        overlaid = restyled (λ style. subst (λ m. IfSome m (λ t. IsStyleOf form settings.form.writing.heading t style)) is) laid;
        ordered = ordered (there, tt) ∙ ap (noted_keys settings.keeps_order) (append-nil first.keys);
      }
  one (first ∷ next ∷ more) named columned says spells laid ordered = absurd says.1

  pub of_one : OverlaysText settings layer form text answer
  of_one = one told.said told.named told.columned told.says told.spells told.overlaid told.ordered

-- the columns of one table
abbrev pub one_key : (fields : List (List ℕ)) → List (List ℕ)
one_key fields = first_name (fields ∷ [])

abbrev pub one_rest : (fields : List (List ℕ)) → List (List ℕ)
one_rest fields = filter (is_beside (one_key fields)) (column_names (fields ∷ []))

abbrev pub one_order : (fields : List (List ℕ)) → List Place
one_order fields = map (place_under_key (one_key fields)) (column_names (fields ∷ []))

-- whether the row of a key comes before that of another one
abbrev pub stands_before : Keys → List (List ℕ) × List (List (List ℕ)) → List (List ℕ) × List (List (List ℕ)) → Bool
stands_before keys row other =
    is_lt (option_cmp nat_cmp (position (pointwise (pointwise nat_eq) row.0) keys) (position (pointwise (pointwise nat_eq) other.0) keys))

module _ {settings : Settings} {layer : Layer} {form : Form} {text : List ℕ} {answer : Answer} (o : OverlaysText settings layer form text answer) (no_key : settings.key ≡ None)
    (keeps : settings.keeps_order ≡ true) (fields : List (List ℕ)) (records : List (List (List ℕ))) (known : IsKnown form text fields records)
    (a b : List (List ℕ) × List (List ℕ)) (up : Up key_cmp (λ k. ⊤) (a ∷ b ∷ [])) (moved : IsPermutation (rows_by fields (one_key fields) (one_rest fields) records) (a ∷ b ∷ [])) where
  abbrev rows : KeyedRows
  rows = a ∷ b ∷ []

  names : o.said.names ≡ fields
  names = plain_names settings.key o.said.header o.said.names no_key o.named
      ∙ header_is form text fields records known settings.groups o.said.header o.said.names o.columns o.said.rows o.says

  columns_known : HaveNames (one_key fields) (column_names (fields ∷ [])) o.columns
  columns_known =
      subst (λ n. HaveNames (first_name (n ∷ [])) (column_names (n ∷ [])) o.columns) names
      (columns_are settings.key (o.said.names ∷ []) (o.said.names ∷ []) o.columns no_key o.columned)

  table : o.said.rows ≡ map alone rows
  table =
      table_is form text fields records known settings.groups o.said.header o.said.names o.columns o.said.rows o.says
      fields (one_key fields) (one_rest fields) rows names columns_known.key columns_known.rest moved up

  laid : o.overlaid.rows ≡ map alone rows
  laid =
      let alone_laid : AreLaidOver layer [] (map alone rows ∷ []) o.overlaid.rows = subst (λ t. AreLaidOver layer [] (t ∷ []) o.overlaid.rows) table o.overlaid.laid in
      let too = laid_alone layer (map alone rows) (alone_rise key_cmp key_total rows up) in
      same_table key_cmp key_total (List (List (List ℕ))) key_exact (λ k. laid_under layer None (map alone rows ∷ []) k) o.overlaid.rows (map alone rows)
      (record { rises = alone_laid.rises; values = alone_laid.values }) (record { rises = too.rises; values = too.values })

  keys : o.said.keys ≡ map (λ row. map (cell_under Rows fields row) (one_key fields)) records
  keys =
      let all : o.keyed.0 ≡ known.all = rows-once (delimiter_of form) (comment_of form) text o.keyed.0 known.all o.keyed.1 known.rows in
      o.keyed.2 ∙ ap (λ rs. map (λ row. map (cell_under Rows o.said.names row) o.columns.key) (behind_header form.has_header rs)) all
      ∙ ap (map (λ row. map (cell_under Rows o.said.names row) o.columns.key)) known.behind
      ∙ ap (λ n. map (λ row. map (cell_under Rows n row) o.columns.key) records) names
      ∙ ap (λ k. map (λ row. map (cell_under Rows fields row) k) records) columns_known.key

  module _ (noted : Keys) (are : noted_keys true (map (λ row. map (cell_under Rows fields row) (one_key fields)) records) ≡ Some noted)
      (before : stands_before noted (alone b) (alone a) ≡ true) where
    -- the rows come out as they stand in the file
    pub in_file_order : (named : Style) → IsStyled form settings.form.writing.heading text named
        → IsInStyle (IsButForEnd named) (λ s. IsTableFileOf (in_style s settings.form) (one_order fields) (one_key fields) (one_rest fields) (map alone (b ∷ a ∷ []))) answer
    in_file_order named styled =
        let told = o.overlaid.answers in
        let written = in_style told.style settings.form in
        let order : o.overlaid.keys ≡ Some noted =
        o.ordered ∙ ap (λ k. noted_keys k o.said.keys) keeps ∙ ap (noted_keys true) keys ∙ are in
        let is : IsTableFile written o.columns (Some noted) o.overlaid.by_cells (map alone rows) answer.bytes.items =
        subst (λ r. IsTableFile written o.columns (Some noted) o.overlaid.by_cells r answer.bytes.items) laid
        (subst (λ k. IsTableFile written o.columns k o.overlaid.by_cells o.overlaid.rows answer.bytes.items) order told.text) in
        let shown : is.0 ≡ map alone (b ∷ a ∷ []) =
        come_out b a o.overlaid.by_cells is.1.0 is.0 (sorted_two (stands_before noted) (alone a) (alone b) is.1.0 is.1.1 is.1.2 before) is.1.3 in
        record {
          style = told.style;
          styled = named_style form settings.form.writing.heading text named told.style styled told.styled;
          bytes =
              subst (λ rows. IsTableFileOf written (one_order fields) (one_key fields) (one_rest fields) rows answer.bytes.items) shown
              (table_file_shown written o.columns is.0 answer.bytes.items (one_order fields) (one_key fields) (one_rest fields) columns_known.order columns_known.key columns_known.rest
              (heads_plainly form settings.form told.style text fields records known settings.groups o.said.header o.said.names o.said.spelled o.columns o.said.rows
              o.headed o.says o.spelled o.spells) is.2);
          status = told.status;
          outcome = told.outcome;
        }
