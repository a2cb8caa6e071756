-- No cell is lost with columns that go, where a table has none of them.
use Rattle.std.proofs.Common.{◌≡◌, ◌≢◌, ◌∙◌, ℕ, suc, Bool, true, false, cond, List, [], ◌∷◌, ◌++◌, All, None, Option, Some, drop, filter, length, map, refl, sym, ap, ap₂, true≢false}
use Rattle.std.specs.Prelude.{◌+◌, ◌&&◌, ◌||◌, is_none, ltb, nat_eq, not, option_map}
use Rattle.std.specs.Cmp.Lexicographic.{pointwise}
use Rattle.std.specs.List.{list_any}
use Rattle.std.proofs.lemmas.List.Elements.{All-head, All-tail}
use Rattle.keyed_columns.specs.ColumnNames.{has_name, is_beside, place_by, place_under_key}
use Rattle.keyed_columns.specs.Names.{place_in}
use Rattle.keyed_columns.specs.CellsUnder.{cell_under, cell_at}
use Rattle.keyed_columns.specs.declared.columns.Columns.{Columns}
use Rattle.keyed_columns.specs.declared.columns.Place.{Place}
use Rattle.keyed_columns.specs.declared.content.Content.TheVariants.{Rows}
use Rattle.keyed_columns.proofs.LawLemmas.{has-kept}
use Rattle.keyed_columns.proofs.NameLemmas.{none_at}
use Rattle.keyed_columns.specs.Lost.{count_written, is_filled, is_rest, loses_cells}
use Rattle.keyed_jobs.specs.Answers.{TableRows}
use Rattle.keyed_jobs.specs.Lost.{loses}
use Rattle.keyed_laws.proofs.ColumnsBackLemmas.{WritesOf, has_head, or_second}
use Rattle.keyed_laws.proofs.TextLawLemmas.{IsRow}

and_false : (a : Bool) → (a && false) ≡ false
and_false true = refl
and_false false = refl

first_of_both : (a b : Bool) → (a && b) ≡ true → a ≡ true
first_of_both true b e = refl
first_of_both false b e = e

none_there : {A : Type 0} (m : Option A) → is_none m ≡ true → m ≡ None
none_there None e = refl
none_there (Some a) e = absurd (true≢false (sym e))

-- of the columns that are written, those beside the key
one_if : (name : List ℕ) (places : List Place) (names : List (List ℕ)) (at : Option ℕ) → length places ≡ length names
    → length (cond (is_rest (place_by at)) (place_by at ∷ places) places) ≡ length (cond (is_none at) (name ∷ names) names)
one_if name places names None e = ap suc e
one_if name places names (Some place) e = e

as_many : (key names : List (List ℕ)) → length (filter is_rest (map (place_under_key key) names)) ≡ length (filter (is_beside key) names)
as_many key [] = refl
as_many key (name ∷ names) = one_if name (filter is_rest (map (place_under_key key) names)) (filter (is_beside key) names) (place_in key name) (as_many key names)

drop_front : (f : List ℕ → List ℕ) (xs ys : List (List ℕ)) → drop (length xs) (map f (xs ++ ys)) ≡ map f ys
drop_front f [] ys = refl
drop_front f (x ∷ xs) ys = drop_front f xs ys

none_filled : (f : List ℕ → List ℕ) (names : List (List ℕ)) → ((name : List ℕ) → has_name names name ≡ true → f name ≡ []) → list_any is_filled (map f names) ≡ false
none_filled f [] h = refl
none_filled f (name ∷ names) h =
    ap (λ cell. is_filled cell || list_any is_filled (map f names)) (h name (has_head name names))
    ∙ none_filled f names (λ other e. h other (or_second _ (has_name names other) e))

module _ (names key written gone : List (List ℕ)) (columns under : Columns) (apart : (name : List ℕ) → has_name gone name ≡ true → has_name names name ≡ false)
    (writes : WritesOf key written gone columns under) where
  count_is : count_written under ≡ length (filter (is_beside key) written)
  count_is = ap (λ order. length (filter is_rest order)) writes.order ∙ as_many key written

  no_cell : (fields : List (List ℕ)) (name : List ℕ) → has_name (filter (is_beside key) gone) name ≡ true → cell_under Rows names fields name ≡ []
  no_cell fields name e =
      let lacks : has_name names name ≡ false = apart name (first_of_both (has_name gone name) (is_beside key name) (sym (has-kept (is_beside key) name gone) ∙ e)) in
      let none : place_in names name ≡ None = none_there (place_in names name) (none_at (pointwise nat_eq name) names ∙ ap not lacks) in
      ap (λ place. cell_at fields (option_map (λ n. n + 0) place)) none

  row_keeps : (group row : List (List ℕ)) → IsRow names columns group row → list_any is_filled (drop (count_written under) row) ≡ false
  row_keeps group row is =
      let f : List ℕ → List ℕ = cell_under Rows names is.0 in
      let cells : row ≡ map f (filter (is_beside key) written ++ filter (is_beside key) gone) = ap (λ (r : List (List ℕ) × List (List ℕ)). r.1) is.1 ∙ ap (map f) (sym writes.rest ∙ writes.names) in
      ap₂ (λ n cells. list_any is_filled (drop n cells)) count_is cells
      ∙ ap (list_any is_filled) (drop_front f (filter (is_beside key) written) (filter (is_beside key) gone))
      ∙ none_filled f (filter (is_beside key) gone) (no_cell is.0)

  rows_keep : (group : List (List ℕ)) (rows : List (List (List ℕ))) → All (IsRow names columns group) rows → loses_cells (count_written under) rows ≡ false
  rows_keep group [] h = refl
  rows_keep group (row ∷ rows) h =
      ap₂ (λ a b. a || b) (row_keeps group row (All-head (IsRow names columns group) row rows h)) (rows_keep group rows (All-tail (IsRow names columns group) row rows h))

  groups_keep : (table : TableRows) → All (λ g. (g.1 ≢ []) × All (IsRow names columns g.0) g.1) table → list_any (λ row. loses_cells (count_written under) row.1) table ≡ false
  groups_keep [] h = refl
  groups_keep (g ∷ gs) h =
      ap₂ (λ a b. a || b) (rows_keep g.0 g.1 (All-head (λ g. (g.1 ≢ []) × All (IsRow names columns g.0) g.1) g gs h).1)
      (groups_keep gs (All-tail (λ g. (g.1 ≢ []) × All (IsRow names columns g.0) g.1) g gs h))

  pub loses-none : (table : TableRows) → All (λ g. (g.1 ≢ []) × All (IsRow names columns g.0) g.1) table → loses under table ≡ false
  loses-none table h = ap (λ b. ltb (count_written under) (length under.rest) && b) (groups_keep table h) ∙ and_false _
