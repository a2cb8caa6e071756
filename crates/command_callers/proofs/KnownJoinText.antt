-- What `join` answers of two texts that are known.
use Rattle.std.proofs.Common.{◌≡◌, ◌∙◌, ◌++◌, ℕ, Bool, Bor, true, List, [], ◌∷◌, filter, flat_map, map, IsPermutation, Option, None, ap, refl, subst}
use Rattle.std.specs.Prelude.{⊤, unwrap_or}
use Rattle.eob_lists.specs.Join.{IsJoin, Rising}
use Rattle.eob_lists.proofs.MergeLemmas.{Up, merge}
use Rattle.eob_joins.specs.Tables.{IsAntiJoin, IsInnerJoin, IsLeftJoin, IsRightJoin, IsSemiJoin, both_places, kept, lone_left, paired_left, paired_right, shared_left}
use Rattle.keyed_requests.specs.declared.request.Form.{Form}
use Rattle.keyed_requests.specs.declared.request.JoinNames.{JoinNames}
use Rattle.keyed_requests.specs.declared.request.Joining.{Joining}
use Rattle.keyed_requests.specs.declared.request.Kind.{Kind}
use Rattle.keyed_requests.specs.declared.request.Kind.TheVariants as kind
use Rattle.keyed_requests.specs.declared.request.Settings.{Settings}
use Rattle.keyed_columns.specs.ColumnNames.{HaveNames, column_names, if_empty, is_beside, or_header, place_under_key}
use Rattle.keyed_columns.specs.JoinedNames.{joined_names, side_column, told_apart}
use Rattle.keyed_columns.specs.Keys.{AreJoinColumns, first_name}
use Rattle.keyed_columns.specs.Placed.{first_cells, names_placed}
use Rattle.keyed_columns.specs.declared.columns.JoinColumns.{JoinColumns}
use Rattle.keyed_files.specs.JoinedRows.{each_before, side_count, side_row}
use Rattle.keyed_files.specs.Writing.{quoted_text}
use Rattle.keyed_tables.specs.Gathered.{alone}
use Rattle.keyed_jobs.specs.Answers.{IsTableText, TableRows, key_cmp}
use Rattle.keyed_jobs.specs.ComeOut.{AlikePlaces, AlikeRows}
use Rattle.keyed_jobs.specs.declared.answer.Answer.{Answer}
use Rattle.keyed_jobs.proofs.AnswerLemmas.{key_exact, key_total}
use Rattle.keyed_commands.specs.JoinAnswers.{AlikeBoth, AlikeLeft, AlikeRight, IsJoinText, IsTextOfJoin, JoinsTexts, RowSides, heading_of_join, inner_sides, left_sides, outer_sides, right_sides}
use Rattle.command_callers.proofs.KnownJoins.{anti_joined, inner_joined, joined, left_joined, right_joined, semi_joined}
use Rattle.command_callers.proofs.KnownRows.{alone_rise}
use Rattle.command_callers.proofs.KnownTables.{IsKnown, IsPlain, KeyedRows, came_out, header_is, plain_key, rows_by, table_is, table_text, table_text_is}

-- the rows of a join, by the names beside the key on each side
module _ (left_rest right_rest : List (List ℕ)) where
  abbrev pub pair_by : (key : List (List ℕ)) → RowSides → ℕ → ℕ → List (List ℕ)
  pair_by key sides left right = ((first_cells sides.first ++ key) ++ side_row sides.left left left_rest) ++ side_row sides.right right right_rest

  abbrev pub sides_by : (key : List (List ℕ)) → RowSides → List (List (List ℕ))
  sides_by key sides = each_before (λ left. each_before (λ right. pair_by key sides left right ∷ []) (side_count sides.right)) (side_count sides.left)

  abbrev pub joined_by : {V : Type 0} → (V → RowSides) → List (List (List ℕ) × V) → List (List (List ℕ))
  joined_by shows rows = flat_map (λ row. sides_by row.0 (shows row.1)) rows

-- the names of the columns of a join that has columns of both tables, by those of the key and beside it
abbrev pub names_by : Kind → JoinNames → (key left right : List (List ℕ)) → List (List ℕ)
names_by made names key left right =
    ((first_cells (side_column made names) ++ key) ++ map (told_apart names.left.now right) left) ++ map (told_apart names.right.now (key ++ left)) right

-- the key of two tables, all names of one of them, and those beside the key
abbrev pub join_key : (left right : List (List ℕ)) → List (List ℕ)
join_key left right = first_name (left ∷ right ∷ [])

abbrev pub side_key : (left right header : List (List ℕ)) → List (List ℕ)
side_key left right header = if_empty header (join_key left right) (join_key left right)

abbrev pub side_names : (header other : List (List ℕ)) → List (List ℕ)
side_names header other = column_names (or_header header other ∷ [])

abbrev pub left_rest : (left right : List (List ℕ)) → List (List ℕ)
left_rest left right = filter (is_beside (side_key left right left)) (side_names left right)

abbrev pub right_rest : (left right : List (List ℕ)) → List (List ℕ)
right_rest left right = filter (is_beside (side_key left right right)) (side_names right left)

-- the columns of each side
pub left_columns : (key : Option (Bor (List ℕ))) (left right : List (List ℕ)) (columns : JoinColumns) → key ≡ None → AreJoinColumns key left right columns
    → HaveNames (side_key left right left) (side_names left right) columns.left
left_columns key left right columns e h =
    let names = plain_key key (left ∷ right ∷ []) h.first h.others e h.names in
    subst (λ k. HaveNames (if_empty left (join_key left right) k) (side_names left right) columns.left) names.0
    (subst (λ k. HaveNames (if_empty left k h.first) (side_names left right) columns.left) names.1 h.are_left)

pub right_columns : (key : Option (Bor (List ℕ))) (left right : List (List ℕ)) (columns : JoinColumns) → key ≡ None → AreJoinColumns key left right columns
    → HaveNames (side_key left right right) (side_names right left) columns.right
right_columns key left right columns e h =
    let names = plain_key key (left ∷ right ∷ []) h.first h.others e h.names in
    subst (λ k. HaveNames (if_empty right k (join_key left right)) (side_names right left) columns.right) names.0
    (subst (λ k. HaveNames (if_empty right h.first k) (side_names right left) columns.right) names.1 h.are_right)

-- the text of a join whose rows are known, under a header
text_of_join_is : {V : Type 0} (form : Form) (columns : JoinColumns) (names : List (List ℕ)) (keys : Option (List (List (List ℕ)))) (by_cells : Bool)
    (shows : V → RowSides) (alike : V → V → Type 0) (rows known : List (List (List ℕ) × V)) (text : List ℕ) (left right : List (List ℕ))
    → columns.left.rest ≡ left → columns.right.rest ≡ right → rows ≡ known → (keys ≡ None) × (by_cells ≡ true)
    → IsTextOfJoin form columns names keys by_cells shows alike rows text
    → text ≡ quoted_text form (heading_of_join form names ++ joined_by left right shows known)
text_of_join_is form columns names keys by_cells shows alike rows known text left right el er is plainly h =
    h.2
    ∙ ap (λ l. quoted_text form (heading_of_join form names ++ joined_by columns.left.rest columns.right.rest shows l)) (came_out keys by_cells alike rows h.0 plainly h.1 ∙ is)
    ∙ ap (λ l. quoted_text form (heading_of_join form names ++ joined_by l columns.right.rest shows known)) el
    ∙ ap (λ r. quoted_text form (heading_of_join form names ++ joined_by left r shows known)) er

module _ {settings : Settings} {how : Joining} {left_form right_form : Form} {left_bytes right_bytes : List ℕ} {answer : Answer}
    (j : JoinsTexts settings how left_form right_form left_bytes right_bytes answer) (plain : IsPlain settings)
    (left_fields right_fields : List (List ℕ)) (left_records right_records : List (List (List ℕ)))
    (left_known : IsKnown left_form left_bytes left_fields left_records) (right_known : IsKnown right_form right_bytes right_fields right_records)
    (left right : KeyedRows) (left_up : Up key_cmp (λ k. ⊤) left) (right_up : Up key_cmp (λ k. ⊤) right)
    (left_moved : IsPermutation (rows_by left_fields (side_key left_fields right_fields left_fields) (left_rest left_fields right_fields) left_records) left)
    (right_moved : IsPermutation (rows_by right_fields (side_key left_fields right_fields right_fields) (right_rest left_fields right_fields) right_records) right) where
  left_names : j.left_header ≡ left_fields
  left_names = header_is left_form left_bytes left_fields left_records left_known settings.groups j.left_header j.left_header j.columns.left j.left j.left_says

  right_names : j.right_header ≡ right_fields
  right_names = header_is right_form right_bytes right_fields right_records right_known settings.groups j.right_header j.right_header j.columns.right j.right j.right_says

  on_left : HaveNames (side_key left_fields right_fields left_fields) (side_names left_fields right_fields) j.columns.left
  on_left =
      subst (λ n. HaveNames (side_key n right_fields n) (side_names n right_fields) j.columns.left) left_names
      (subst (λ n. HaveNames (side_key j.left_header n j.left_header) (side_names j.left_header n) j.columns.left) right_names
      (left_columns settings.key j.left_header j.right_header j.columns plain.key j.columned))

  on_right : HaveNames (side_key left_fields right_fields right_fields) (side_names right_fields left_fields) j.columns.right
  on_right =
      subst (λ n. HaveNames (side_key n right_fields right_fields) (side_names right_fields n) j.columns.right) left_names
      (subst (λ n. HaveNames (side_key j.left_header n n) (side_names n j.left_header) j.columns.right) right_names
      (right_columns settings.key j.left_header j.right_header j.columns plain.key j.columned))

  left_table : j.left ≡ map alone left
  left_table =
      table_is left_form left_bytes left_fields left_records left_known settings.groups j.left_header j.left_header j.columns.left j.left j.left_says
      left_fields (side_key left_fields right_fields left_fields) (left_rest left_fields right_fields) left left_names on_left.key on_left.rest left_moved left_up

  right_table : j.right ≡ map alone right
  right_table =
      table_is right_form right_bytes right_fields right_records right_known settings.groups j.right_header j.right_header j.columns.right j.right j.right_says
      right_fields (side_key left_fields right_fields right_fields) (right_rest left_fields right_fields) right right_names on_right.key on_right.rest right_moved right_up

  -- what holds of both tables holds of what they are
  of_tables : (P : TableRows → TableRows → Type 0) → P j.left j.right → P (map alone left) (map alone right)
  of_tables P h = subst (λ t. P t (map alone right)) left_table (subst (λ t. P j.left t) right_table h)

  -- what the text of a join is, by what kind of join it is
  abbrev pub outer_text : (names : List (List ℕ)) → List ℕ
  outer_text names = quoted_text settings.form (heading_of_join settings.form names
      ++ joined_by (left_rest left_fields right_fields) (right_rest left_fields right_fields) outer_sides (merge key_cmp (map alone left) (map alone right)))

  abbrev pub inner_text : (names : List (List ℕ)) → List ℕ
  inner_text names = quoted_text settings.form (heading_of_join settings.form names
      ++ joined_by (left_rest left_fields right_fields) (right_rest left_fields right_fields) inner_sides (kept both_places (merge key_cmp (map alone left) (map alone right))))

  abbrev pub left_text : (names : List (List ℕ)) → List ℕ
  left_text names = quoted_text settings.form (heading_of_join settings.form names
      ++ joined_by (left_rest left_fields right_fields) (right_rest left_fields right_fields) left_sides (kept paired_left (merge key_cmp (map alone left) (map alone right))))

  abbrev pub right_text : (names : List (List ℕ)) → List ℕ
  right_text names = quoted_text settings.form (heading_of_join settings.form names
      ++ joined_by (left_rest left_fields right_fields) (right_rest left_fields right_fields) right_sides (kept paired_right (merge key_cmp (map alone left) (map alone right))))

  abbrev pub left_text_of : TableRows → List ℕ
  left_text_of rows =
      table_text settings.form (map (place_under_key (side_key left_fields right_fields left_fields)) (side_names left_fields right_fields))
      (side_key left_fields right_fields left_fields) (left_rest left_fields right_fields) rows

  abbrev names : List (List ℕ)
  names = joined_names how.kind how.names j.columns

  -- the names of its columns
  abbrev pub known_names : Kind → List (List ℕ)
  known_names made = names_by made how.names (side_key left_fields right_fields left_fields) (left_rest left_fields right_fields) (right_rest left_fields right_fields)

  names_are : (made : Kind) → how.kind ≡ made → joined_names made how.names j.columns ≡ names_by made how.names j.columns.left.key j.columns.left.rest j.columns.right.rest
      → names ≡ known_names made
  names_are made is same =
      ap (λ k. joined_names k how.names j.columns) is ∙ same
      ∙ ap (λ k. names_by made how.names k j.columns.left.rest j.columns.right.rest) on_left.key
      ∙ ap (λ l. names_by made how.names (side_key left_fields right_fields left_fields) l j.columns.right.rest) on_left.rest
      ∙ ap (λ r. names_by made how.names (side_key left_fields right_fields left_fields) (left_rest left_fields right_fields) r) on_right.rest

  abbrev IsText : Kind → Type 0
  IsText made = IsJoinText settings.form j.columns names j.join.keys j.join.by_cells made j.left j.right answer.bytes.items

  of_kind : (made : Kind) → how.kind ≡ made → IsText made
  of_kind made is = subst IsText is j.join.join

  left_rises : Rising key_cmp (map alone left)
  left_rises = alone_rise key_cmp key_total left left_up

  right_rises : Rising key_cmp (map alone right)
  right_rises = alone_rise key_cmp key_total right right_up

  pub outer_bytes : how.kind ≡ kind.Outer → answer.bytes.items ≡ outer_text (known_names kind.Outer)
  outer_bytes is =
      let text = of_kind kind.Outer is in
      text_of_join_is settings.form j.columns names j.join.keys j.join.by_cells outer_sides (AlikePlaces AlikeRows AlikeRows) text.0 (merge key_cmp (map alone left) (map alone right)) answer.bytes.items
      (left_rest left_fields right_fields) (right_rest left_fields right_fields) on_left.rest on_right.rest
      (joined key_cmp key_total key_exact (map alone left) (map alone right) left_rises right_rises text.0 (of_tables (λ a b. IsJoin key_cmp a b text.0) text.1))
      (j.join.order plain.order) text.2
      ∙ ap outer_text (names_are kind.Outer is refl)

  pub inner_bytes : how.kind ≡ kind.Inner → answer.bytes.items ≡ inner_text (known_names kind.Inner)
  inner_bytes is =
      let text = of_kind kind.Inner is in
      text_of_join_is settings.form j.columns names j.join.keys j.join.by_cells inner_sides AlikeBoth text.0 (kept both_places (merge key_cmp (map alone left) (map alone right))) answer.bytes.items
      (left_rest left_fields right_fields) (right_rest left_fields right_fields) on_left.rest on_right.rest
      (inner_joined key_cmp key_total key_exact (map alone left) (map alone right) left_rises right_rises text.0 (of_tables (λ a b. IsInnerJoin key_cmp a b text.0) text.1))
      (j.join.order plain.order) text.2
      ∙ ap inner_text (names_are kind.Inner is refl)

  pub left_join_bytes : how.kind ≡ kind.Left → answer.bytes.items ≡ left_text (known_names kind.Left)
  left_join_bytes is =
      let text = of_kind kind.Left is in
      text_of_join_is settings.form j.columns names j.join.keys j.join.by_cells left_sides AlikeLeft text.0 (kept paired_left (merge key_cmp (map alone left) (map alone right))) answer.bytes.items
      (left_rest left_fields right_fields) (right_rest left_fields right_fields) on_left.rest on_right.rest
      (left_joined key_cmp key_total key_exact (map alone left) (map alone right) left_rises right_rises text.0 (of_tables (λ a b. IsLeftJoin key_cmp a b text.0) text.1))
      (j.join.order plain.order) text.2
      ∙ ap left_text (names_are kind.Left is refl)

  pub right_join_bytes : how.kind ≡ kind.Right → answer.bytes.items ≡ right_text (known_names kind.Right)
  right_join_bytes is =
      let text = of_kind kind.Right is in
      text_of_join_is settings.form j.columns names j.join.keys j.join.by_cells right_sides AlikeRight text.0 (kept paired_right (merge key_cmp (map alone left) (map alone right))) answer.bytes.items
      (left_rest left_fields right_fields) (right_rest left_fields right_fields) on_left.rest on_right.rest
      (right_joined key_cmp key_total key_exact (map alone left) (map alone right) left_rises right_rises text.0 (of_tables (λ a b. IsRightJoin key_cmp a b text.0) text.1))
      (j.join.order plain.order) text.2
      ∙ ap right_text (names_are kind.Right is refl)

  -- the rows of the left table alone, whose header is known
  table_bytes : (rows known : TableRows) → rows ≡ known → IsTableText settings.form j.columns.left j.join.keys j.join.by_cells rows answer.bytes.items
      → answer.bytes.items ≡ left_text_of known
  table_bytes rows known is text =
      table_text_is settings.form j.columns.left j.join.keys j.join.by_cells rows answer.bytes.items
      (map (place_under_key (side_key left_fields right_fields left_fields)) (side_names left_fields right_fields))
      (side_key left_fields right_fields left_fields) (left_rest left_fields right_fields) on_left.order on_left.key on_left.rest (j.join.order plain.order)
      (λ writes. ap (λ names. unwrap_or names (names_placed j.columns.left)) j.columned.plain_left) text
      ∙ ap left_text_of is

  pub semi_bytes : how.kind ≡ kind.Semi → answer.bytes.items ≡ left_text_of (kept shared_left (merge key_cmp (map alone left) (map alone right)))
  semi_bytes is =
      let text = of_kind kind.Semi is in
      table_bytes text.0 (kept shared_left (merge key_cmp (map alone left) (map alone right)))
      (semi_joined key_cmp key_total key_exact (map alone left) (map alone right) left_rises right_rises text.0 (of_tables (λ a b. IsSemiJoin key_cmp a b text.0) text.1)) text.2

  pub anti_bytes : how.kind ≡ kind.Anti → answer.bytes.items ≡ left_text_of (kept lone_left (merge key_cmp (map alone left) (map alone right)))
  anti_bytes is =
      let text = of_kind kind.Anti is in
      table_bytes text.0 (kept lone_left (merge key_cmp (map alone left) (map alone right)))
      (anti_joined key_cmp key_total key_exact (map alone left) (map alone right) left_rises right_rises text.0 (of_tables (λ a b. IsAntiJoin key_cmp a b text.0) text.1)) text.2
