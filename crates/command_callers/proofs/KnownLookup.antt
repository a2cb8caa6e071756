-- What `lookup` writes of two texts that are known.
use Rattle.std.proofs.Common.{◌≡◌, ◌∙◌, ◌++◌, ℕ, List, [], ◌∷◌, true, flat_map, map, Option, None, Some, ap, refl, subst, sym}
use Rattle.std.specs.Prelude.{if◌then◌else◌, unwrap_or}
use Rattle.std.specs.List.{AllByRecursion}
use Rattle.std.specs.Map.{lookup}
use Rattle.keyed_text.specs.Texts.{text_by, writer_in}
use Rattle.keyed_text.specs.declared.style.Style.{Style}
use Rattle.keyed_requests.specs.AnswerForm.{writes_heading}
use Rattle.keyed_requests.specs.FormBytes.{comment_of, delimiter_of}
use Rattle.keyed_requests.specs.declared.lookups.Finding.{Finding}
use Rattle.keyed_requests.specs.declared.lookups.LookupKind.{LookupKind}
use Rattle.keyed_requests.specs.declared.lookups.LookupKind.TheVariants as kind
use Rattle.keyed_requests.specs.declared.request.Form.{Form}
use Rattle.keyed_requests.specs.declared.request.JoinNames.{JoinNames}
use Rattle.keyed_requests.specs.declared.request.Layout.{Layout}
use Rattle.keyed_columns.specs.ColumnNames.{HaveNames, place_under_key}
use Rattle.keyed_columns.specs.JoinedNames.{found_names, told_apart}
use Rattle.keyed_columns.specs.Placed.{placed}
use Rattle.keyed_columns.specs.declared.columns.JoinColumns.{JoinColumns}
use Rattle.keyed_columns.specs.declared.columns.Place.{Place}
use Rattle.keyed_files.specs.JoinedRows.{join_heading}
use Rattle.keyed_files.specs.Reading.{parts_of}
use Rattle.keyed_files.specs.Writing.{quoted_first, quoted_text}
use Rattle.keyed_commands.specs.JoinAnswers.{heading_of_join}
use Rattle.keyed_commands.specs.LookupAnswers.{AppendsRows, LooksUpTexts, key_eq, lookup_rows, rows_of}
use Rattle.command_callers.specs.Answered.{plainly}
use Rattle.command_callers.proofs.KnownJoinText.{left_columns, left_rest, right_columns, right_rest, side_key, side_names}
use Rattle.command_callers.proofs.KnownTables.{IsKnown, KeyedRows, read_header, read_rows, rows_by}
use Rattle.command_callers.proofs.WrittenParts.{IsUnmarked, written_parts}

-- the rows that are written of a row, by the places of its columns and the names beside the key of the right table
module _ (order : List Place) (names : List (List ℕ)) where
  abbrev pub with_cells : (key rest : List (List ℕ)) → Option (List (List ℕ)) → List (List ℕ)
  with_cells key rest found = placed order key rest ++ unwrap_or found (map (λ name. []) names)

  abbrev pub rows_with : LookupKind → (key rest : List (List ℕ)) → Option (List (List ℕ)) → List (List (List ℕ))
  rows_with kind.Left key rest found = with_cells key rest found ∷ []
  rows_with kind.Inner key rest None = []
  rows_with kind.Inner key rest (Some cells) = with_cells key rest (Some cells) ∷ []
  rows_with kind.Anti key rest None = placed order key rest ∷ []
  rows_with kind.Anti key rest (Some cells) = []

  abbrev pub looked_up : LookupKind → (right left : KeyedRows) → List (List (List ℕ))
  looked_up kind right left = flat_map (λ row. rows_with kind row.0 row.1 (lookup (key_eq row.0) right)) left

-- the names of the columns that are written
abbrev pub found_by : LookupKind → JoinNames → List Place → (key left right : List (List ℕ)) → List (List ℕ)
found_by kind.Anti names order key left right = placed order key left
found_by made names order key left right = placed order key (map (told_apart names.left.now right) left) ++ map (told_apart names.right.now (key ++ left)) right

names_are : (made : LookupKind) (names : JoinNames) (columns : JoinColumns)
    → found_names made names columns ≡ found_by made names columns.left.order.items columns.left.key columns.left.rest columns.right.rest
names_are kind.Left names columns = refl
names_are kind.Inner names columns = refl
names_are kind.Anti names columns = refl

rows_are : (columns : JoinColumns) (kind : LookupKind) (key rest : List (List ℕ)) (found : Option (List (List ℕ)))
    → rows_of columns kind key rest found ≡ rows_with columns.left.order.items columns.right.rest kind key rest found
rows_are columns kind.Left key rest found = refl
rows_are columns kind.Inner key rest None = refl
rows_are columns kind.Inner key rest (Some cells) = refl
rows_are columns kind.Anti key rest None = refl
rows_are columns kind.Anti key rest (Some cells) = refl

looked_up_are : (columns : JoinColumns) (kind : LookupKind) (right left : KeyedRows)
    → lookup_rows columns kind (λ key. lookup (key_eq key) right) left ≡ looked_up columns.left.order.items columns.right.rest kind right left
looked_up_are columns kind right [] = refl
looked_up_are columns kind right (row ∷ rows) =
    ap (λ l. l ++ lookup_rows columns kind (λ key. lookup (key_eq key) right) rows) (rows_are columns kind row.0 row.1 (lookup (key_eq row.0) right))
    ∙ ap (λ l. rows_with columns.left.order.items columns.right.rest kind row.0 row.1 (lookup (key_eq row.0) right) ++ l) (looked_up_are columns kind right rows)

module _ {layout : Layout} {how : Finding} {left_form right_form : Form} {left_text right_text old new : List ℕ}
    (l : LooksUpTexts layout how left_form right_form left_text right_text (Some old) (Some new)) (plain : layout.key ≡ None)
    (left_fields right_fields : List (List ℕ)) (left_records right_records : List (List (List ℕ)))
    (left_known : IsKnown left_form left_text left_fields left_records) (right_known : IsKnown right_form right_text right_fields right_records) where
  abbrev left_key : List (List ℕ)
  left_key = side_key left_fields right_fields left_fields

  abbrev right_key : List (List ℕ)
  right_key = side_key left_fields right_fields right_fields

  abbrev beside_left : List (List ℕ)
  beside_left = left_rest left_fields right_fields

  abbrev beside_right : List (List ℕ)
  beside_right = right_rest left_fields right_fields

  abbrev order : List Place
  order = map (place_under_key left_key) (side_names left_fields right_fields)

  left_names : l.left_header ≡ left_fields
  left_names = read_header left_form left_text left_fields left_records left_known l.left_header l.left_header l.columns.left l.left l.left_says

  right_names : l.right_header ≡ right_fields
  right_names = read_header right_form right_text right_fields right_records right_known l.right_header l.right_header l.columns.right l.right l.right_says

  on_left : HaveNames left_key (side_names left_fields right_fields) l.columns.left
  on_left =
      subst (λ n. HaveNames (side_key n right_fields n) (side_names n right_fields) l.columns.left) left_names
      (subst (λ n. HaveNames (side_key l.left_header n l.left_header) (side_names l.left_header n) l.columns.left) right_names
      (left_columns layout.key l.left_header l.right_header l.columns plain l.columned))

  on_right : HaveNames right_key (side_names right_fields left_fields) l.columns.right
  on_right =
      subst (λ n. HaveNames (side_key n right_fields right_fields) (side_names right_fields n) l.columns.right) left_names
      (subst (λ n. HaveNames (side_key l.left_header n n) (side_names n l.left_header) l.columns.right) right_names
      (right_columns layout.key l.left_header l.right_header l.columns plain l.columned))

  left_rows : map parts_of l.left ≡ rows_by left_fields left_key beside_left left_records
  left_rows =
      read_rows left_form left_text left_fields left_records left_known l.left_header l.left_header l.columns.left l.left l.left_says
      left_fields left_key beside_left left_names on_left.key on_left.rest

  right_rows : map parts_of l.right ≡ rows_by right_fields right_key beside_right right_records
  right_rows =
      read_rows right_form right_text right_fields right_records right_known l.right_header l.right_header l.columns.right l.right l.right_says
      right_fields right_key beside_right right_names on_right.key on_right.rest

  -- the rows of the left table in their order, each with what the right one has under its key
  abbrev pub known_rows : List (List (List ℕ))
  known_rows = looked_up order beside_right how.kind (rows_by right_fields right_key beside_right right_records) (rows_by left_fields left_key beside_left left_records)

  rows_known : lookup_rows l.columns how.kind (λ key. lookup (key_eq key) (map parts_of l.right)) (map parts_of l.left) ≡ known_rows
  rows_known =
      looked_up_are l.columns how.kind (map parts_of l.right) (map parts_of l.left)
      ∙ ap (λ o. looked_up o l.columns.right.rest how.kind (map parts_of l.right) (map parts_of l.left)) on_left.order
      ∙ ap (λ n. looked_up order n how.kind (map parts_of l.right) (map parts_of l.left)) on_right.rest
      ∙ ap (λ r. looked_up order beside_right how.kind r (map parts_of l.left)) right_rows
      ∙ ap (λ r. looked_up order beside_right how.kind (rows_by right_fields right_key beside_right right_records) r) left_rows

  -- the names of the columns that are written
  abbrev pub known_names : List (List ℕ)
  known_names = found_by how.kind how.names order left_key beside_left beside_right

  names_known : found_names how.kind how.names l.columns ≡ known_names
  names_known =
      names_are how.kind how.names l.columns
      ∙ ap (λ o. found_by how.kind how.names o l.columns.left.key l.columns.left.rest l.columns.right.rest) on_left.order
      ∙ ap (λ k. found_by how.kind how.names order k l.columns.left.rest l.columns.right.rest) on_left.key
      ∙ ap (λ n. found_by how.kind how.names order left_key n l.columns.right.rest) on_left.rest
      ∙ ap (λ n. found_by how.kind how.names order left_key beside_left n) on_right.rest

  -- they are appended, under the header
  adds_rows : AppendsRows layout.form (heading_of_join layout.form known_names ++ known_rows) (Some old) (Some new)
  adds_rows =
      subst (λ n. AppendsRows layout.form (heading_of_join layout.form n ++ known_rows) (Some old) (Some new)) names_known
      (subst (λ r. AppendsRows layout.form (heading_of_join layout.form (found_names how.kind how.names l.columns) ++ r) (Some old) (Some new)) rows_known l.written)

  -- and as one text, where they are written plainly and none of them begins as a byte order mark
  pub adds_text : writes_heading layout.form ≡ true → layout.form.writing.style ≡ plainly
      → AllByRecursion (IsUnmarked (delimiter_of layout.form) (comment_of layout.form)) known_rows
      → new ≡ old ++ quoted_text layout.form (join_heading known_names ++ known_rows)
  adds_text has styled unmarked =
      let parts : AppendsRows layout.form (join_heading known_names ++ known_rows) (Some old) (Some new) =
      subst (λ b. AppendsRows layout.form ((if b then join_heading known_names else []) ++ known_rows) (Some old) (Some new)) has adds_rows in
      let d = delimiter_of layout.form in
      let given : Style → List (List (List ℕ)) → List ℕ = λ style rows. quoted_first d (text_by (writer_in style d (comment_of layout.form)) rows) in
      let P : Style → Type 0 = λ style. new ≡ old ++ flat_map (given style) parts.0 → new ≡ old ++ given style (join_heading known_names ++ known_rows) in
      let plain : P plainly = λ appended. appended ∙ ap (λ t. old ++ t) (written_parts d (comment_of layout.form) known_names known_rows parts.0 parts.1 unmarked) in
      subst P (sym styled) plain parts.2
