-- What `overlay` answers of two texts that are known.
use Rattle.std.proofs.Common.{◌≡◌, ◌∙◌, ℕ, false, List, [], ◌∷◌, filter, map, IsPermutation, Option, None, Some, refl, subst}
use Rattle.std.specs.Prelude.{⊤, IfSome, option_map}
use Rattle.std.specs.List.{AllZip}
use Rattle.std.specs.Option.{option_and_then}
use Rattle.eob_both.specs.declared.either_or_both.EitherOrBoth.{EitherOrBoth}
use Rattle.eob_both.specs.Places.{from_places}
use Rattle.eob_lists.specs.Join.{Rising, value_under}
use Rattle.eob_lists.proofs.MergeLemmas.{IsJoin-merge, Up, merge}
use Rattle.eob_joins.specs.Tables.{kept}
use Rattle.eob_joins.proofs.TableLemmas.{kept_law, retabled, same_table}
use Rattle.keyed_text.specs.declared.style.Style.{Style}
use Rattle.keyed_requests.specs.AnswerForm.{in_style}
use Rattle.keyed_requests.specs.declared.overlays.Layer.{Layer}
use Rattle.keyed_requests.specs.declared.overlays.Layer.TheVariants as layer
use Rattle.keyed_requests.specs.declared.request.Form.{Form}
use Rattle.keyed_requests.specs.declared.request.Settings.{Settings}
use Rattle.keyed_jobs.specs.FileOrder.{KeysOf}
use Rattle.keyed_columns.specs.ColumnNames.{HaveNames, column_names, is_beside, place_under_key}
use Rattle.keyed_columns.specs.Keys.{AreColumnsBy, first_name}
use Rattle.keyed_columns.specs.Spelled.{IsSpelledAs, SpelledOf}
use Rattle.keyed_columns.specs.declared.columns.Columns.{Columns}
use Rattle.keyed_columns.specs.declared.columns.Place.{Place}
use Rattle.keyed_columns.specs.declared.content.Content.TheVariants.{Rows}
use Rattle.keyed_files.specs.Opening.{form_of, text_of_stream}
use Rattle.keyed_files.specs.declared.opened.Stream.{Stream}
use Rattle.keyed_tables.specs.Gathered.{alone}
use Rattle.keyed_jobs.specs.Answers.{TableRows, key_cmp}
use Rattle.keyed_jobs.specs.NotedStyles.{IsStyleOf}
use Rattle.keyed_jobs.specs.TablesRead.{AreNames, SaysTable}
use Rattle.keyed_jobs.specs.declared.answer.Answer.{Answer}
use Rattle.keyed_jobs.proofs.AnswerLemmas.{key_exact, key_total}
use Rattle.keyed_commands.specs.OverlayAnswers.{AreLaidOver, AreNamed, OverlaidIn, OverlaysStreams, Said, SaysRows, SpellsFirst, StylesFirst, laid_rows}
use Rattle.command_callers.specs.Answered.{IsButForEnd, IsInStyle}
use Rattle.command_callers.proofs.KnownRows.{alone_rise}
use Rattle.command_callers.proofs.KnownStyles.{IsStyled, named_style}
use Rattle.command_callers.proofs.KnownTables.{IsKnown, IsPlain, KeyedRows, columns_are, header_is, heads_plainly, plain_names, rows_by, table_is, IsTableFileOf, table_file_is}

-- what stands under a key of two tables, one over the other
abbrev pub over : Layer → EitherOrBoth (List (List (List ℕ))) (List (List (List ℕ))) → Option (List (List (List ℕ)))
over layer rows = Some (laid_rows layer rows)

laid_two : (layer : Layer) (m n : Option (List (List (List ℕ))))
    → option_and_then (over layer) (from_places m n) ≡ option_map (laid_rows layer) (from_places (option_map (laid_rows layer) (from_places None m)) n)
laid_two layer.Rows None None = refl
laid_two layer.Rows None (Some above) = refl
laid_two layer.Rows (Some below) None = refl
laid_two layer.Rows (Some below) (Some above) = refl
laid_two layer.Cells None None = refl
laid_two layer.Cells None (Some above) = refl
laid_two layer.Cells (Some below) None = refl
laid_two layer.Cells (Some below) (Some above) = refl

abbrev pub laid_table : Layer → (below above : TableRows) → TableRows
laid_table layer below above = kept (over layer) (merge key_cmp below above)

laid_is : (layer : Layer) (below above rows : TableRows) → Rising key_cmp below → Rising key_cmp above → AreLaidOver layer [] (below ∷ above ∷ []) rows
    → rows ≡ laid_table layer below above
laid_is layer below above rows up rises laid =
    let join = IsJoin-merge key_cmp key_total below above up rises in
    let both : List (List ℕ) → Option (EitherOrBoth (List (List (List ℕ))) (List (List (List ℕ)))) = λ k. from_places (value_under key_cmp below k) (value_under key_cmp above k) in
    let one_over : List (List ℕ) → Option (List (List (List ℕ))) = λ k. option_map (laid_rows layer) (from_places (option_map (laid_rows layer) (from_places None (value_under key_cmp below k))) (value_under key_cmp above k)) in
    same_table key_cmp key_total (List (List (List ℕ))) key_exact one_over rows (laid_table layer below above) (record { rises = laid.rises; values = laid.values })
    (retabled key_cmp (laid_table layer below above) (λ k. option_and_then (over layer) (both k)) one_over (λ k. laid_two layer (value_under key_cmp below k) (value_under key_cmp above k))
    (kept_law key_cmp key_total (EitherOrBoth (List (List (List ℕ))) (List (List (List ℕ)))) (List (List (List ℕ))) (over layer) both (merge key_cmp below above)
    (record { rises = join.rises; values = join.values })))

-- what is said of the style of an answer, in other words
abbrev pub restyled : {P Q : Style → Type 0} {layer : Layer} {form : Form} {columns : Columns} {unordered : Type 0} {tables : List TableRows} {answer : Answer}
    → ((style : Style) → P style → Q style) → OverlaidIn layer P form columns unordered tables answer → OverlaidIn layer Q form columns unordered tables answer
restyled so laid = record {
  rows = laid.rows;
  keys = laid.keys;
  by_cells = laid.by_cells;
  laid = laid.laid;
  order = laid.order;
  answers = record {
    style = laid.answers.style;
    styled = so laid.answers.style laid.answers.styled;
    text = laid.answers.text;
    status = laid.answers.status;
    outcome = laid.answers.outcome;
  };
}

-- what `overlay` answers of two texts
pub record OverlaysTexts (settings : Settings) (layer : Layer) (below_form above_form : Form) (below_text above_text : List ℕ) (answer : Answer) : Type 0 where
  pub columns : Columns
  pub below : Said
  pub above : Said
  pub below_named : AreNames settings.key below.header below.names
  pub above_named : above.names ≡ above.header
  pub columned : AreColumnsBy settings.key (below.names ∷ above.names ∷ []) (below.names ∷ above.names ∷ []) columns
  pub below_says : SaysTable below_form Rows settings.groups below_text below.header below.names columns below.rows
  pub above_says : SaysTable above_form Rows settings.groups above_text above.header above.names columns above.rows
  pub below_spells : SpelledOf below_form Rows below_text below.spelled
  pub spells : IsSpelledAs below.header below.spelled columns
  pub headed : below_form.has_header ≡ settings.form.has_header
  pub overlaid : OverlaidIn layer (IsStyleOf below_form settings.form.writing.heading below_text) settings.form columns (settings.keeps_order ≡ false) (below.rows ∷ above.rows ∷ []) answer

module _ {R : Type 0} (rem : R → Option (List ℕ)) (settings : Settings) (layer : Layer) (below above : Stream R) (below_text above_text : List ℕ) (answer : Answer) where
  abbrev OfTexts : Type 0
  OfTexts = OverlaysTexts settings layer (form_of settings.form below) (form_of settings.form above) below_text above_text answer

  says_text : (columns : Columns) (stream : Stream R) (text : List ℕ) (said : Said) → text_of_stream rem settings.form stream ≡ Some text → SaysRows rem settings columns stream said
      → SaysTable (form_of settings.form stream) Rows settings.groups text said.header said.names columns said.rows
      × SpelledOf (form_of settings.form stream) Rows text said.spelled × KeysOf (form_of settings.form stream) Rows text said.names columns said.keys
  says_text columns stream text said e h = subst (λ m. IfSome m (λ t. SaysTable (form_of settings.form stream) Rows settings.groups t said.header said.names columns said.rows
      × SpelledOf (form_of settings.form stream) Rows t said.spelled × KeysOf (form_of settings.form stream) Rows t said.names columns said.keys)) e h

  two : (columns : Columns) (said : List Said) → AreNamed settings.key said
      → AreColumnsBy settings.key (map (λ table. table.names) said) (map (λ table. table.names) said) columns
      → AllZip (SaysRows rem settings columns) (below ∷ above ∷ []) said → SpellsFirst rem settings columns (below ∷ above ∷ []) said
      → OverlaidIn layer (StylesFirst rem settings (below ∷ above ∷ [])) settings.form columns (settings.keeps_order ≡ false) (map (λ table. table.rows) said) answer
      → text_of_stream rem settings.form below ≡ Some below_text → text_of_stream rem settings.form above ≡ Some above_text → OfTexts
  two columns [] named columned says spells laid e f = absurd says
  two columns (first ∷ []) named columned says spells laid e f = absurd says.1
  two columns (first ∷ next ∷ []) named columned says spells laid e f =
      record {
        columns = columns;
        below = first;
        above = next;
        below_named = named.0;
        above_named = named.1.0;
        columned = columned;
        below_says = (says_text columns below below_text first e says.0).0;
        above_says = (says_text columns above above_text next f says.1.0).0;
        below_spells = (says_text columns below below_text first e says.0).1;
        spells = subst (λ m. IfSome m (λ t. IsSpelledAs first.header first.spelled columns)) e spells;
        headed = refl;
        overlaid = restyled (λ style. subst (λ m. IfSome m (λ t. IsStyleOf (form_of settings.form below) settings.form.writing.heading t style)) e) laid;
      }
  two columns (first ∷ next ∷ other ∷ more) named columned says spells laid e f = absurd says.1.1

  pub of_two : OverlaysStreams rem settings layer (below ∷ above ∷ []) answer → text_of_stream rem settings.form below ≡ Some below_text
      → text_of_stream rem settings.form above ≡ Some above_text → OfTexts
  of_two told = two told.columns told.said told.named told.columned told.says told.spells told.overlaid

-- the names of the columns of both
abbrev pub overlay_key : (below above : List (List ℕ)) → List (List ℕ)
overlay_key below above = first_name (below ∷ above ∷ [])

abbrev pub overlay_names : (below above : List (List ℕ)) → List (List ℕ)
overlay_names below above = column_names (below ∷ above ∷ [])

abbrev pub overlay_rest : (below above : List (List ℕ)) → List (List ℕ)
overlay_rest below above = filter (is_beside (overlay_key below above)) (overlay_names below above)

abbrev pub overlay_order : (below above : List (List ℕ)) → List Place
overlay_order below above = map (place_under_key (overlay_key below above)) (overlay_names below above)

module _ {settings : Settings} {layer : Layer} {below_form above_form : Form} {below_text above_text : List ℕ} {answer : Answer}
    (o : OverlaysTexts settings layer below_form above_form below_text above_text answer) (plain : IsPlain settings)
    (below_fields above_fields : List (List ℕ)) (below_records above_records : List (List (List ℕ)))
    (below_known : IsKnown below_form below_text below_fields below_records) (above_known : IsKnown above_form above_text above_fields above_records)
    (below above : KeyedRows) (below_up : Up key_cmp (λ k. ⊤) below) (above_up : Up key_cmp (λ k. ⊤) above)
    (below_moved : IsPermutation (rows_by below_fields (overlay_key below_fields above_fields) (overlay_rest below_fields above_fields) below_records) below)
    (above_moved : IsPermutation (rows_by above_fields (overlay_key below_fields above_fields) (overlay_rest below_fields above_fields) above_records) above) where
  abbrev key : List (List ℕ)
  key = overlay_key below_fields above_fields

  abbrev rest : List (List ℕ)
  rest = overlay_rest below_fields above_fields

  below_names : o.below.names ≡ below_fields
  below_names =
      plain_names settings.key o.below.header o.below.names plain.key o.below_named
      ∙ header_is below_form below_text below_fields below_records below_known settings.groups o.below.header o.below.names o.columns o.below.rows o.below_says

  above_names : o.above.names ≡ above_fields
  above_names =
      o.above_named ∙ header_is above_form above_text above_fields above_records above_known settings.groups o.above.header o.above.names o.columns o.above.rows o.above_says

  columns_known : HaveNames key (overlay_names below_fields above_fields) o.columns
  columns_known =
      subst (λ n. HaveNames (overlay_key n above_fields) (overlay_names n above_fields) o.columns) below_names
      (subst (λ n. HaveNames (overlay_key o.below.names n) (overlay_names o.below.names n) o.columns) above_names
      (columns_are settings.key (o.below.names ∷ o.above.names ∷ []) (o.below.names ∷ o.above.names ∷ []) o.columns plain.key o.columned))

  below_table : o.below.rows ≡ map alone below
  below_table =
      table_is below_form below_text below_fields below_records below_known settings.groups o.below.header o.below.names o.columns o.below.rows o.below_says
      below_fields key rest below below_names columns_known.key columns_known.rest below_moved below_up

  above_table : o.above.rows ≡ map alone above
  above_table =
      table_is above_form above_text above_fields above_records above_known settings.groups o.above.header o.above.names o.columns o.above.rows o.above_says
      above_fields key rest above above_names columns_known.key columns_known.rest above_moved above_up

  rows_known : o.overlaid.rows ≡ laid_table layer (map alone below) (map alone above)
  rows_known =
      laid_is layer (map alone below) (map alone above) o.overlaid.rows (alone_rise key_cmp key_total below below_up) (alone_rise key_cmp key_total above above_up)
      (subst (λ t. AreLaidOver layer [] (t ∷ map alone above ∷ []) o.overlaid.rows) below_table
      (subst (λ t. AreLaidOver layer [] (o.below.rows ∷ t ∷ []) o.overlaid.rows) above_table o.overlaid.laid))

  -- the answer is the table of the rows of both, one over the other
  pub overlay_whole : (named : Style) → IsStyled below_form settings.form.writing.heading below_text named
      → IsInStyle (IsButForEnd named) (λ s. IsTableFileOf (in_style s settings.form) (overlay_order below_fields above_fields) key rest (laid_table layer (map alone below) (map alone above))) answer
  overlay_whole named known =
      let told = o.overlaid.answers in
      let form = in_style told.style settings.form in
      record {
        style = told.style;
        styled = named_style below_form settings.form.writing.heading below_text named told.style known told.styled;
        bytes =
            subst (λ rows. IsTableFileOf form (overlay_order below_fields above_fields) key rest rows answer.bytes.items) rows_known
            (table_file_is form o.columns o.overlaid.keys o.overlaid.by_cells o.overlaid.rows answer.bytes.items
            (overlay_order below_fields above_fields) key rest columns_known.order columns_known.key columns_known.rest (o.overlaid.order plain.order)
            (heads_plainly below_form settings.form told.style below_text below_fields below_records below_known settings.groups o.below.header o.below.names o.below.spelled o.columns o.below.rows
            o.headed o.below_says o.below_spells o.spells) told.text);
        status = told.status;
        outcome = told.outcome;
      }
