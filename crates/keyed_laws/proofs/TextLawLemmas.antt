-- A text says one table and one list of changes, and what `diff` writes says the changes that it found.
use Rattle.std.proofs.Common.{◌≡◌, ◌≢◌, ◌∙◌, ℕ, Bool, true, false, List, [], ◌∷◌, All, None, map, refl, sym, ap, ap₂, subst, subst₂}
use Rattle.std.specs.Prelude.{IfSome}
use Rattle.std.specs.List.{flat_map}
use Rattle.std.proofs.lemmas.List.Elements.{All-cons, All-nil, All-weaker}
use Rattle.std.proofs.lemmas.List.Sorted.{All-permutation}
use Rattle.eob_both.specs.declared.either_or_both.EitherOrBoth.{EitherOrBoth}
use Rattle.eob_both.specs.Places.{from_places, left_place, right_place}
use Rattle.eob_lists.specs.Join.{IsJoin, Rising, value_under}
use Rattle.eob_joins.specs.Changes.{changed}
use Rattle.eob_joins.specs.Tables.{IsKeptOfJoin, kept}
use Rattle.eob_joins.proofs.TableLemmas.{same_table}
use Rattle.keyed_requests.specs.AnswerForm.{writes_heading}
use Rattle.keyed_requests.specs.FormBytes.{comment_of, delimiter_of}
use Rattle.keyed_requests.specs.declared.request.Form.{Form}
use Rattle.keyed_requests.specs.declared.request.Settings.{Settings}
use Rattle.keyed_columns.specs.ColumnNames.{column_names}
use Rattle.keyed_columns.specs.Headers.{unmarked}
use Rattle.keyed_columns.specs.Names.{repeats}
use Rattle.keyed_columns.specs.CellsUnder.{row_under}
use Rattle.keyed_columns.specs.Placed.{placed}
use Rattle.keyed_columns.specs.declared.columns.Columns.{Columns}
use Rattle.keyed_columns.specs.declared.columns.Place.{Place}
use Rattle.keyed_columns.specs.declared.content.Content.TheVariants.{Changes, Rows}
use Rattle.keyed_columns.proofs.LawLemmas.{cells-of}
use Rattle.keyed_files.specs.Reading.{HeadedBy, behind_header, parts_of}
use Rattle.keyed_files.specs.Rows.{change_name}
use Rattle.keyed_tables.specs.Gathered.{HoldsRows}
use Rattle.keyed_text.specs.Texts.{AreRows, BeginsComments, PartsCells}
use Rattle.keyed_text.proofs.TextLemmas.{rows-once}
use Rattle.keyed_jobs.specs.Answers.{ChangesComeOut, IsDiffText, TableChanges, TableRows, key_cmp, rows_eq}
use Rattle.keyed_jobs.specs.ChangeRows.{changes_rows}
use Rattle.keyed_jobs.specs.ChangesRead.{SaysChanges, come_rows, gone_rows, signed_parts, signed_under}
use Rattle.keyed_jobs.specs.TablesRead.{DiffsTexts, SaysTable}
use Rattle.keyed_jobs.specs.declared.answer.Answer.{Answer}
use Rattle.keyed_jobs.proofs.AnswerLemmas.{key_exact, key_total}
use Rattle.keyed_commands.proofs.GatheredLemmas.{Climbing, HasRow, climbing, flat, groups-hold, holds-flat, one-table}
use Rattle.keyed_commands.proofs.TableOnceLemmas.{table_once}
use Rattle.keyed_laws.specs.TextLaws.{AreReadAs, DiffSaysLaw, OneChangesLaw, OneTableLaw}
use Rattle.keyed_laws.proofs.ChangesBackLemmas.{AllBack, ReadsBack, all-lefts, all-rights, changes-rise, come-back, come-parts, come_of, gone-back, gone-parts, gone_of, joined-again, lefts-hold, lefts-rise, rights-hold, rights-rise}
use Rattle.keyed_laws.proofs.ColumnsBackLemmas.{Within, columns-once, columns-within, names-unmarked, row-back}
use Rattle.keyed_laws.proofs.LawLemmas.{diff_reads, has-header}

pub one-table-law : OneTableLaw
one-table-law form kind groups text header names columns table other a b =
    let same : a.1.0 ≡ b.1.0 = rows-once (delimiter_of form) (comment_of form) text a.1.0 b.1.0 a.1.1 b.1.1 in
    table_once groups a.0 b.0 table other
    (a.1.3 ∙ ap (λ records. map (row_under kind names columns) (behind_header form.has_header records)) same ∙ sym b.1.3) a.2 b.2

-- and of the same two tables one join
join_once : (p q p2 q2 : TableRows) (ys zs : TableChanges) → p ≡ p2 → q ≡ q2 → IsJoin key_cmp p q ys → IsJoin key_cmp p2 q2 zs → ys ≡ zs
join_once p q p2 q2 ys zs e f a b =
    same_table key_cmp key_total (EitherOrBoth (List (List (List ℕ))) (List (List (List ℕ)))) key_exact (value_under key_cmp zs) ys zs
    (record {
      rises = a.rises;
      values = λ k. a.values k ∙ ap₂ (λ l r. from_places (value_under key_cmp l k) (value_under key_cmp r k)) e f ∙ sym (b.values k);
    })
    (record { rises = b.rises; values = λ k. refl })

pub one-changes-law : OneChangesLaw
one-changes-law form groups text header names columns changes others a b =
    let same : a.1.0 ≡ b.1.0 = rows-once (delimiter_of form) (comment_of form) text a.1.0 b.1.0 a.1.1 b.1.1 in
    let parts : map signed_parts a.0 ≡ map signed_parts b.0 =
    a.1.3 ∙ ap (λ records. map (signed_under names columns) (behind_header form.has_header records)) same ∙ sym b.1.3 in
    let gone : map parts_of (gone_rows a.0) ≡ map parts_of (gone_rows b.0) = gone-parts a.0 ∙ ap (flat_map gone_of) parts ∙ sym (gone-parts b.0) in
    let come : map parts_of (come_rows a.0) ≡ map parts_of (come_rows b.0) = come-parts a.0 ∙ ap (flat_map come_of) parts ∙ sym (come-parts b.0) in
    join_once a.2.gone_by_key a.2.come_by_key b.2.gone_by_key b.2.come_by_key changes others
    (table_once groups (gone_rows a.0) (gone_rows b.0) a.2.gone_by_key b.2.gone_by_key gone a.2.goes b.2.goes)
    (table_once groups (come_rows a.0) (come_rows b.0) a.2.come_by_key b.2.come_by_key come a.2.comes b.2.comes)
    a.2.joined b.2.joined

-- a row of a table is read of a record under the names of columns
abbrev pub IsRow : List (List ℕ) → Columns → List (List ℕ) → List (List ℕ) → Type 0
IsRow names columns key row = (fields : List (List ℕ)) × ((key, row) ≡ row_under Rows names columns fields)

all_rows : (names : List (List ℕ)) (columns : Columns) (records : List (List (List ℕ))) → All (λ row. IsRow names columns row.0 row.1) (map (row_under Rows names columns) records)
all_rows names columns [] = All-nil (λ row. IsRow names columns row.0 row.1)
all_rows names columns (fields ∷ records) =
    All-cons (λ row. IsRow names columns row.0 row.1) (row_under Rows names columns fields) (map (row_under Rows names columns) records) (fields, refl) (all_rows names columns records)

-- the groups of a table that a text says: each has a row, each row is read of a record, and the rows stand in order
module _ (form : Form) (groups : Bool) (text : List ℕ) (header names : List (List ℕ)) (columns : Columns) (table : TableRows)
    (says : SaysTable form Rows groups text header names columns table) where
  pub groups-are : All (λ g. (g.1 ≢ []) × All (IsRow names columns g.0) g.1) table
  groups-are =
      let holds = says.2.0 in
      groups-hold key_cmp key_total key_exact (IsRow names columns) holds.0 table holds.2
      (All-permutation (λ row. IsRow names columns row.0 row.1) (map parts_of says.0) holds.0 holds.1
      (subst (λ rows. All (λ row. IsRow names columns row.0 row.1) rows) (sym says.1.3) (all_rows names columns (behind_header form.has_header says.1.0))))

  pub groups-climb : All (λ g. Climbing key_cmp key_total key_exact key_cmp key_total key_exact g.0 g.1) table
  groups-climb = climbing key_cmp key_total key_exact key_cmp key_total key_exact groups table says.2.1

  pub groups-full : All HasRow table
  groups-full = All-weaker (λ g. (g.1 ≢ []) × All (IsRow names columns g.0) g.1) HasRow (λ g h. h.0) table groups-are

  pub table-rises : Rising key_cmp table
  table-rises = says.2.0.2.rises

  -- and each of them reads back, where it is placed under the names of all columns and read again
  pub groups-back : (all : List (List ℕ)) (under : Columns) (order : List Place) → Within names all
      → ((f : List ℕ → List ℕ) → placed order (map f columns.key) (map f columns.rest) ≡ map f all) → AreReadAs columns under
      → All (λ g. AllBack all under order g.0 g.1) table
  groups-back all under order within places alike =
      All-weaker (λ g. (g.1 ≢ []) × All (IsRow names columns g.0) g.1) (λ g. AllBack all under order g.0 g.1)
      (λ g h. All-weaker (IsRow names columns g.0) (ReadsBack all under order g.0)
      (λ row is. subst (λ (r : List (List ℕ) × List (List ℕ)). ReadsBack all under order r.0 r.1) (sym is.1)
      (row-back all names within columns under order is.0 places alike.key alike.rest)) g.1 h.1)
      table groups-are

-- changes that come out by key are the changes
come_out : (old new : TableRows) (shown : TableChanges) → ChangesComeOut None true old new shown → IsKeptOfJoin key_cmp (changed rows_eq) old new shown
come_out old new shown h = subst (IsKeptOfJoin key_cmp (changed rows_eq) old new) (sym (h.2.3 ∙ h.2.2)) h.1

-- the text of changes that is read as changes
module _ (form : Form) (columns under : Columns) (marked all : List (List ℕ)) (shown : TableChanges) (text : List ℕ) (groups : Bool) (header : List (List ℕ)) (changes : TableChanges)
    (has : form.has_header ≡ true) (reads : AreRows (delimiter_of form) (comment_of form) text ((change_name ∷ marked) ∷ changes_rows columns.order.items shown))
    (names : map unmarked marked ≡ all) (once : repeats [] all ≡ false) (says : SaysChanges form groups text header header under changes) where
  records_are : says.1.0 ≡ (change_name ∷ marked) ∷ changes_rows columns.order.items shown
  records_are = rows-once (delimiter_of form) (comment_of form) text says.1.0 ((change_name ∷ marked) ∷ changes_rows columns.order.items shown) says.1.1 reads

  -- its names are those of its header without their marks
  pub header-is : header ≡ all
  header-is =
      let headed : HeadedBy true Changes ((change_name ∷ marked) ∷ changes_rows columns.order.items shown) header =
      subst₂ (λ b records. HeadedBy b Changes records header) has records_are says.1.2 in
      headed (ap (repeats []) names ∙ once) ∙ names

  parts_are : map signed_parts says.0 ≡ map (signed_under all under) (changes_rows columns.order.items shown)
  parts_are =
      says.1.3 ∙ ap₂ (λ b records. map (signed_under header under) (behind_header b records)) has records_are
      ∙ ap (λ h. map (signed_under h under) (changes_rows columns.order.items shown)) header-is

  module _ (lefts : All (λ z. IfSome (left_place z.1) (AllBack all under columns.order.items z.0)) shown)
      (rights : All (λ z. IfSome (right_place z.1) (AllBack all under columns.order.items z.0)) shown) where
    gone_are : map parts_of (gone_rows says.0) ≡ flat (kept left_place shown)
    gone_are = gone-parts says.0 ∙ ap (flat_map gone_of) parts_are ∙ gone-back all under columns.order.items shown lefts rights

    come_are : map parts_of (come_rows says.0) ≡ flat (kept right_place shown)
    come_are = come-parts says.0 ∙ ap (flat_map come_of) parts_are ∙ come-back all under columns.order.items shown lefts rights

    -- and the changes are those that were written
    pub changes-are : Rising key_cmp shown
        → All (λ z. IfSome (left_place z.1) (Climbing key_cmp key_total key_exact key_cmp key_total key_exact z.0)) shown
        → All (λ z. IfSome (right_place z.1) (Climbing key_cmp key_total key_exact key_cmp key_total key_exact z.0)) shown
        → All (λ z. IfSome (left_place z.1) (λ rows. rows ≢ [])) shown → All (λ z. IfSome (right_place z.1) (λ rows. rows ≢ [])) shown
        → changes ≡ shown
    changes-are rises left_climbs right_climbs left_full right_full =
        let paired = says.2 in
        joined-again key_cmp key_total shown rises key_exact paired.gone_by_key paired.come_by_key changes paired.joined
        (one-table key_cmp key_total key_exact key_cmp key_total key_exact (flat (kept left_place shown)) paired.gone_by_key (kept left_place shown)
        (subst (λ ps. HoldsRows key_cmp ps paired.gone_by_key) gone_are paired.goes.0)
        (holds-flat key_cmp key_total (kept left_place shown) (lefts-rise key_cmp key_total shown rises) (all-lefts (λ k rows. rows ≢ []) shown left_full))
        (climbing key_cmp key_total key_exact key_cmp key_total key_exact groups paired.gone_by_key paired.goes.1)
        (all-lefts (Climbing key_cmp key_total key_exact key_cmp key_total key_exact) shown left_climbs))
        (one-table key_cmp key_total key_exact key_cmp key_total key_exact (flat (kept right_place shown)) paired.come_by_key (kept right_place shown)
        (subst (λ ps. HoldsRows key_cmp ps paired.come_by_key) come_are paired.comes.0)
        (holds-flat key_cmp key_total (kept right_place shown) (rights-rise key_cmp key_total shown rises) (all-rights (λ k rows. rows ≢ []) shown right_full))
        (climbing key_cmp key_total key_exact key_cmp key_total key_exact groups paired.come_by_key paired.comes.1)
        (all-rights (Climbing key_cmp key_total key_exact key_cmp key_total key_exact) shown right_climbs))

-- what `diff` wrote of two texts
module _ (settings : Settings) (old_form new_form : Form) (old_text new_text : List ℕ) (answer : Answer) (has : writes_heading settings.form ≡ true)
    (parts : PartsCells (delimiter_of settings.form)) (begins : BeginsComments (delimiter_of settings.form) (comment_of settings.form))
    (plain : settings.keeps_order ≡ false) (diffs : DiffsTexts settings old_form new_form old_text new_text answer) where
  -- the names of all columns
  abbrev pub all_of : List (List ℕ)
  all_of = column_names (diffs.next_header ∷ diffs.names ∷ [])

  diff_text : IsDiffText settings.form diffs.columns None true diffs.changes.marked diffs.old diffs.new answer.bytes.items
  diff_text =
      let ordered = diffs.changes.order plain in
      subst₂ (λ keys by_cells. IsDiffText settings.form diffs.columns keys by_cells diffs.changes.marked diffs.old diffs.new answer.bytes.items) ordered.0 ordered.1 diffs.changes.changes

  pub read_back : (shown : TableChanges) × IsKeptOfJoin key_cmp (changed rows_eq) diffs.old diffs.new shown
      × AreRows (delimiter_of settings.form) (comment_of settings.form) answer.bytes.items ((change_name ∷ diffs.changes.marked) ∷ changes_rows diffs.columns.order.items shown)
  read_back =
      let read = diff_reads settings.form diffs.columns None true diffs.changes.marked diffs.old diffs.new answer.bytes.items has parts begins diff_text in
      (read.0, come_out diffs.old diffs.new read.0 read.1, read.2)

  names_are : map unmarked diffs.changes.marked ≡ all_of
  names_are = ap (map unmarked) diffs.marks ∙ names-unmarked diffs.names diffs.next_header

  once_all : repeats [] all_of ≡ false
  once_all = columns-once diffs.columned.others (diffs.next_header ∷ diffs.names ∷ []) diffs.columns diffs.columned.are

  module _ (header : List (List ℕ)) (columns : Columns) (changes : TableChanges)
      (says : SaysChanges settings.form settings.groups answer.bytes.items header header columns changes) where
    -- has their names in its header
    pub changes-header : header ≡ all_of
    changes-header = header-is settings.form diffs.columns columns diffs.changes.marked all_of read_back.0 answer.bytes.items settings.groups header changes (has-header settings.form has) read_back.2 names_are once_all says

    -- and says the changes between the two tables
    pub diff-says : AreReadAs diffs.columns columns → IsKeptOfJoin key_cmp (changed rows_eq) diffs.old diffs.new changes
    diff-says alike =
        let shown = read_back.0 in
        let d = read_back.1 in
        let order = diffs.columns.order.items in
        let within = columns-within diffs.next_header diffs.names in
        let places = cells-of diffs.columned.others (diffs.next_header ∷ diffs.names ∷ []) diffs.columns diffs.columned.are in
        let old_back = groups-back old_form settings.groups old_text diffs.header diffs.names diffs.columns diffs.old diffs.old_says all_of columns order within.1 places alike in
        let new_back = groups-back new_form settings.groups new_text diffs.next_header diffs.next_header diffs.columns diffs.new diffs.new_says all_of columns order within.0 places alike in
        let old_climb = groups-climb old_form settings.groups old_text diffs.header diffs.names diffs.columns diffs.old diffs.old_says in
        let new_climb = groups-climb new_form settings.groups new_text diffs.next_header diffs.next_header diffs.columns diffs.new diffs.new_says in
        let old_full = groups-full old_form settings.groups old_text diffs.header diffs.names diffs.columns diffs.old diffs.old_says in
        let new_full = groups-full new_form settings.groups new_text diffs.next_header diffs.next_header diffs.columns diffs.new diffs.new_says in
        let same = changes-are settings.form diffs.columns columns diffs.changes.marked all_of shown answer.bytes.items settings.groups header changes (has-header settings.form has) read_back.2 names_are once_all says
        (lefts-hold key_cmp key_total key_exact rows_eq (AllBack all_of columns order) diffs.old diffs.new shown d old_back)
        (rights-hold key_cmp key_total key_exact rows_eq (AllBack all_of columns order) diffs.old diffs.new shown d new_back)
        (changes-rise key_cmp key_total key_exact rows_eq diffs.old diffs.new shown d)
        (lefts-hold key_cmp key_total key_exact rows_eq (Climbing key_cmp key_total key_exact key_cmp key_total key_exact) diffs.old diffs.new shown d old_climb)
        (rights-hold key_cmp key_total key_exact rows_eq (Climbing key_cmp key_total key_exact key_cmp key_total key_exact) diffs.old diffs.new shown d new_climb)
        (lefts-hold key_cmp key_total key_exact rows_eq (λ k rows. rows ≢ []) diffs.old diffs.new shown d old_full)
        (rights-hold key_cmp key_total key_exact rows_eq (λ k rows. rows ≢ []) diffs.old diffs.new shown d new_full) in
        subst (IsKeptOfJoin key_cmp (changed rows_eq) diffs.old diffs.new) (sym same) d

pub diff-says-law : DiffSaysLaw
diff-says-law settings old_form new_form old_text new_text answer header columns changes has parts begins plain diffs alike says =
    diff-says settings old_form new_form old_text new_text answer has parts begins plain diffs header columns changes says alike
