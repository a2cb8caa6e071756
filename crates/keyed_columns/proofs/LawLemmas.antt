-- Laws of columns: their names, and their cells picked and put back.
use Rattle.std.proofs.Common.{◌≡◌, ◌∙◌, ◌+◌, ℕ, suc, zero, Bool, true, false, cond, List, [], ◌∷◌, ◌++◌, None, Option, Some, arith, filter, length, length-append, map, nat_eq, refl, sym, ap, ap₂, append_assoc, get_or, subst, take}
use Rattle.std.specs.Prelude.{◌&&◌, ◌||◌, is_none, nat_lt, not, option_map, slice_get, unwrap_or}
use Rattle.std.specs.Cmp.Lexicographic.{bytes_decides, nat_list_eq_equiv, pointwise}
use Rattle.std.specs.List.{AllByRecursion, IsDistinct, list_any, position_or_len}
use Rattle.std.proofs.lemmas.Bool.Decides.{nat_tests}
use Rattle.std.proofs.lemmas.List.{append-nil}
use Rattle.std.proofs.lemmas.List.Quantifiers.{position-Some}
use Rattle.std.proofs.lemmas.Option.{slice_get-get_or, slice_get-map}
use Rattle.csv.specs.Records.{field_at}
use Rattle.indexmap.specs.IndexSet.{insert_all}
use Rattle.keyed_columns.specs.ColumnLaws.{KeepsNamesLaw, NamesOnceLaw, PlacesCellsLaw, PutsBackLaw, WritesNamesLaw}
use Rattle.keyed_columns.specs.ColumnNames.{AreColumns, all_names, column_names, distinct, is_beside, place_by, place_under_key}
use Rattle.keyed_columns.specs.Names.{place_in, repeats}
use Rattle.keyed_columns.specs.CellsUnder.{cell_at, cell_under}
use Rattle.keyed_columns.specs.Placed.{cell_placed, placed, rest_behind}
use Rattle.keyed_columns.specs.declared.columns.Columns.{Columns}
use Rattle.keyed_columns.specs.declared.columns.Place.{Place}
use Rattle.keyed_columns.specs.declared.content.Content.TheVariants as content
use Rattle.keyed_columns.proofs.ColumnLemmas.{distinct-inserted, inserted}
use Rattle.keyed_columns.proofs.NameLemmas.{all_names as in_all, none_at}

-- names that are equal are the same
same-name : (name other : List ℕ) → pointwise nat_eq name other ≡ true → name ≡ other
same-name name other e = (bytes_decides name other).0 e

and_false : (a : Bool) → false ≡ (a && false)
and_false true = refl
and_false false = refl

-- a name is among those that are kept where it is one of all and is kept
module _ (p : List ℕ → Bool) where
  kept_if : (name x : List ℕ) (xs : List (List ℕ)) (same kept : Bool) → pointwise nat_eq name x ≡ same → p x ≡ kept
      → list_any (pointwise nat_eq name) (filter p xs) ≡ (list_any (pointwise nat_eq name) xs && p name)
      → list_any (pointwise nat_eq name) (filter p (x ∷ xs)) ≡ (list_any (pointwise nat_eq name) (x ∷ xs) && p name)
  kept_if name x xs true true e k h = let at : p name ≡ true = ap p (same-name name x e) ∙ k in rw (k, e, at) refl
  kept_if name x xs true false e k h =
      let at : p name ≡ false = ap p (same-name name x e) ∙ k in
      rw (k, e) (h ∙ ap (λ b. list_any (pointwise nat_eq name) xs && b) at ∙ sym (and_false _) ∙ sym at)
  kept_if name x xs false true e k h = rw (k, e) h
  kept_if name x xs false false e k h = rw (k, e) h

  pub has-kept : (name : List ℕ) (xs : List (List ℕ)) → list_any (pointwise nat_eq name) (filter p xs) ≡ (list_any (pointwise nat_eq name) xs && p name)
  has-kept name [] = refl
  has-kept name (x ∷ xs) = kept_if name x xs (pointwise nat_eq name x) (p x) refl refl (has-kept name xs)

has-distinct : (name : List ℕ) (xs : List (List ℕ)) → list_any (pointwise nat_eq name) (distinct xs) ≡ list_any (pointwise nat_eq name) xs
has-distinct name xs = ap (list_any (pointwise nat_eq name)) (sym (distinct-inserted xs)) ∙ in_all name xs

pub keeps-names : KeepsNamesLaw
keeps-names key headers columns h name =
    ap (list_any (pointwise nat_eq name)) h.rest ∙ has-kept (is_beside key) name (column_names headers)
    ∙ ap₂ (λ a b. a && b) (has-distinct name (all_names headers))
    (ap (λ k. is_beside k name) (sym h.key) ∙ none_at (pointwise nat_eq name) columns.key)

-- no name stands twice
module _ (P : List ℕ → Type 0) (p : List ℕ → Bool) where
  all_kept_if : (x : List ℕ) (xs : List (List ℕ)) (b : Bool) → p x ≡ b → P x → AllByRecursion P (filter p xs) → AllByRecursion P (filter p (x ∷ xs))
  all_kept_if x xs true e here h = rw e (here, h)
  all_kept_if x xs false e here h = rw e h

  all-kept : (xs : List (List ℕ)) → AllByRecursion P xs → AllByRecursion P (filter p xs)
  all-kept [] h = tt
  all-kept (x ∷ xs) h = all_kept_if x xs (p x) refl h.0 (all-kept xs h.1)

once_if : (p : List ℕ → Bool) (x : List ℕ) (xs : List (List ℕ)) (b : Bool) → p x ≡ b → AllByRecursion (λ y. pointwise nat_eq x y ≡ false) xs
    → IsDistinct (pointwise nat_eq) (filter p xs) → IsDistinct (pointwise nat_eq) (filter p (x ∷ xs))
unfolding IsDistinct
once_if p x xs true e apart h = rw e (all-kept (λ y. pointwise nat_eq x y ≡ false) p xs apart, h)
once_if p x xs false e apart h = rw e h

once-kept : (p : List ℕ → Bool) (xs : List (List ℕ)) → IsDistinct (pointwise nat_eq) xs → IsDistinct (pointwise nat_eq) (filter p xs)
unfolding IsDistinct
once-kept p [] h = tt
once-kept p (x ∷ xs) h = once_if p x xs (p x) refl h.0 (once-kept p xs h.1)

apart_from : (x y : List ℕ) (ys : List (List ℕ)) (b : Bool) → pointwise nat_eq y x ≡ b
    → AllByRecursion (λ o. pointwise nat_eq x o ≡ false) (filter (λ o. not (pointwise nat_eq o x)) ys)
    → AllByRecursion (λ o. pointwise nat_eq x o ≡ false) (filter (λ o. not (pointwise nat_eq o x)) (y ∷ ys))
apart_from x y ys true e h = rw e h
apart_from x y ys false e h = rw e (nat_list_eq_equiv.symm x y ∙ e, h)

apart-all : (x : List ℕ) (ys : List (List ℕ)) → AllByRecursion (λ o. pointwise nat_eq x o ≡ false) (filter (λ o. not (pointwise nat_eq o x)) ys)
apart-all x [] = tt
apart-all x (y ∷ ys) = apart_from x y ys (pointwise nat_eq y x) refl (apart-all x ys)

once-distinct : (xs : List (List ℕ)) → IsDistinct (pointwise nat_eq) (distinct xs)
unfolding distinct IsDistinct
once-distinct [] = tt
once-distinct (x ∷ xs) = (apart-all x (distinct xs), once-kept (λ o. not (pointwise nat_eq o x)) (distinct xs) (once-distinct xs))

-- cells are placed where they were picked
module _ (key : List (List ℕ)) (f : List ℕ → List ℕ) where
  in_key : (name : List ℕ) (place : ℕ) → place_in key name ≡ Some place → unwrap_or (slice_get (map f key) place) [] ≡ f name
  in_key name place e =
      let at = position-Some (pointwise nat_eq name) key place [] e in
      ap (λ cell. unwrap_or cell []) (slice_get-map f key place ∙ ap (option_map f) (slice_get-get_or key place [] at.0))
      ∙ ap f (sym (same-name name (get_or key place []) at.1))

  place_step : (name : List ℕ) (names : List (List ℕ)) (order : List Place) (at : Option ℕ)
      → ((place : ℕ) → at ≡ Some place → unwrap_or (slice_get (map f key) place) [] ≡ f name)
      → placed (place_by at ∷ order) (map f key) (map f (cond (is_none at) (name ∷ names) names)) ≡ f name ∷ placed order (map f key) (map f names)
  unfolding placed
  place_step name names order None h = refl
  place_step name names order (Some place) h = ap (λ cell. cell ∷ placed order (map f key) (map f names)) (h place refl)

  placed_none : placed [] (map f key) [] ≡ []
  unfolding placed
  placed_none = refl

  pub placed-names : (names : List (List ℕ)) → placed (map (place_under_key key) names) (map f key) (map f (filter (is_beside key) names)) ≡ map f names
  placed-names [] = placed_none
  placed-names (name ∷ names) =
      place_step name (filter (is_beside key) names) (map (place_under_key key) names) (place_in key name) (in_key name)
      ∙ ap (λ cells. f name ∷ cells) (placed-names names)

map_same : (xs : List (List ℕ)) → map (λ x. x) xs ≡ xs
map_same [] = refl
map_same (x ∷ xs) = ap (λ l. x ∷ l) (map_same xs)

-- the cells of a row under columns, in their order
module _ (key names : List (List ℕ)) (columns : Columns) (order : List Place) (in_order : columns.order.items ≡ order)
    (is_key : columns.key ≡ key) (is_rest : columns.rest ≡ filter (is_beside key) names) where
  pub placed-cells : (f : List ℕ → List ℕ) → placed columns.order.items (map f columns.key) (map f columns.rest)
      ≡ placed order (map f key) (map f (filter (is_beside key) names))
  placed-cells f = ap (λ o. placed o (map f columns.key) (map f columns.rest)) in_order
      ∙ ap₂ (λ k r. placed order (map f k) (map f r)) is_key is_rest

  pub placed-header : placed columns.order.items columns.key columns.rest ≡ placed order (map (λ x. x) key) (map (λ x. x) (filter (is_beside key) names))
  placed-header = sym (ap₂ (λ k r. placed columns.order.items k r) (map_same columns.key) (map_same columns.rest)) ∙ placed-cells (λ x. x)

pub names-of : (key : List (List ℕ)) (headers : List (List (List ℕ))) (columns : Columns) → AreColumns key headers columns
    → placed columns.order.items columns.key columns.rest ≡ column_names headers
names-of key headers columns h =
    placed-header key (column_names headers) columns _ h.order h.key h.rest ∙ placed-names key (λ x. x) (column_names headers) ∙ map_same (column_names headers)

pub cells-of : (key : List (List ℕ)) (headers : List (List (List ℕ))) (columns : Columns) → AreColumns key headers columns → (f : List ℕ → List ℕ)
    → placed columns.order.items (map f columns.key) (map f columns.rest) ≡ map f (column_names headers)
cells-of key headers columns h f =
    placed-cells key (column_names headers) columns _ h.order h.key h.rest f ∙ placed-names key f (column_names headers)

pub places-cells : PlacesCellsLaw
places-cells key headers columns h =
    (names-of key headers columns h, λ kind names fields. cells-of key headers columns h (cell_under kind names fields))

pub names-once : NamesOnceLaw
names-once key headers columns h = (
  subst (IsDistinct (pointwise nat_eq)) (sym h.rest) (once-kept (is_beside key) (column_names headers) (once-distinct (all_names headers))),
  subst (IsDistinct (pointwise nat_eq)) (sym (names-of key headers columns h)) (once-distinct (all_names headers)),
)

-- names of which none is repeated are each once
or_left : (a b : Bool) → (a || b) ≡ false → a ≡ false
or_left true b e = e
or_left false b e = refl

or_right : (a b : Bool) → (a || b) ≡ false → b ≡ false
or_right true b e = absurd (cc e)
or_right false b e = e

inserted_new : (names before : List (List ℕ)) → repeats before names ≡ false → insert_all (pointwise nat_eq) before names ≡ before ++ names
unfolding repeats
inserted_new [] before h = sym (append-nil before)
inserted_new (name ∷ names) before h =
    let new : list_any (pointwise nat_eq name) before ≡ false = or_left _ _ h in
    ap (λ b. insert_all (pointwise nat_eq) (cond b before (before ++ (name ∷ []))) names) new
    ∙ inserted_new names (before ++ (name ∷ [])) (or_right _ _ h) ∙ append_assoc before (name ∷ []) names

pub distinct-once : (names : List (List ℕ)) → repeats [] names ≡ false → distinct names ≡ names
distinct-once names h = sym (distinct-inserted names) ∙ inserted_new names [] h

-- the place of a name after others
module _ (name : List ℕ) (rest : List (List ℕ)) where
  behind_if : (x : List ℕ) (before : List (List ℕ)) → pointwise nat_eq name x ≡ false
      → position_or_len (pointwise nat_eq name) (before ++ (name ∷ rest)) ≡ length before
      → position_or_len (pointwise nat_eq name) (x ∷ (before ++ (name ∷ rest))) ≡ suc (length before)
  behind_if x before e h = rw e (omega (arith, h))

  at_name : position_or_len (pointwise nat_eq name) (name ∷ rest) ≡ 0
  at_name = rw (nat_list_eq_equiv.refl name) refl

  behind : (before : List (List ℕ)) → list_any (pointwise nat_eq name) before ≡ false
      → position_or_len (pointwise nat_eq name) (before ++ (name ∷ rest)) ≡ length before
  behind [] h = at_name
  behind (x ∷ before) h = behind_if x before (or_left _ _ h) (behind before (or_right _ _ h))

  within : (before : List (List ℕ)) → nat_lt (length before) (length (before ++ (name ∷ rest))) ≡ true
  within before = let all = length-append before (name ∷ rest) in grind (arith, nat_tests)

  pub place-behind : (before : List (List ℕ)) → list_any (pointwise nat_eq name) before ≡ false → place_in (before ++ (name ∷ rest)) name ≡ Some (length before)
  place-behind before h =
      ap (λ n. cond (nat_lt n (length (before ++ (name ∷ rest)))) (Some n) None) (behind before h)
      ∙ ap (λ b. cond b (Some (length before)) None) (within before)

field_behind : (before : List (List ℕ)) (cell : List ℕ) (rest : List (List ℕ)) (n : ℕ) → n ≡ length before → field_at (before ++ (cell ∷ rest)) n ≡ Some cell
unfolding field_at
field_behind [] cell rest zero e = refl
field_behind [] cell rest (suc n) e = absurd (omega arith)
field_behind (x ∷ before) cell rest zero e = absurd (omega arith)
field_behind (x ∷ before) cell rest (suc n) e = let s : n ≡ length before = omega arith in field_behind before cell rest n s

-- the cells of a record under the names of its header
picked_back : (rest fields : List (List ℕ)) (before cells : List (List ℕ)) → length fields ≡ length rest → length cells ≡ length before → repeats before rest ≡ false
    → map (cell_under content.Rows (before ++ rest) (cells ++ fields)) rest ≡ fields
unfolding repeats
picked_back [] [] before cells e s h = refl
picked_back [] (cell ∷ fields) before cells e s h = absurd (omega arith)
picked_back (name ∷ rest) [] before cells e s h = absurd (omega arith)
picked_back (name ∷ rest) (cell ∷ fields) before cells e s h =
    let more : length fields ≡ length rest = omega arith in
    let all : length (cells ++ (cell ∷ [])) ≡ length (before ++ (name ∷ [])) = omega (arith, length-append cells (cell ∷ []), length-append before (name ∷ [])) in
    let at : length before + 0 ≡ length cells = omega arith in
    ap₂ (λ c l. c ∷ l)
    (ap (λ place. cell_at (cells ++ (cell ∷ fields)) (option_map (λ n. n + 0) place)) (place-behind name rest before (or_left _ _ h))
    ∙ ap (λ c. unwrap_or c []) (field_behind cells cell fields (length before + 0) at))
    (ap₂ (λ n c. map (cell_under content.Rows n c) rest) (sym (append_assoc before (name ∷ []) rest)) (sym (append_assoc cells (cell ∷ []) fields))
    ∙ picked_back rest fields (before ++ (name ∷ [])) (cells ++ (cell ∷ [])) more all (or_right _ _ h))

pub puts-back : PutsBackLaw
puts-back key names columns h once =
    let all : column_names (names ∷ []) ≡ names = ap distinct (append-nil names) ∙ distinct-once names once in (
      names-of key (names ∷ []) columns h ∙ all,
      λ fields same. cells-of key (names ∷ []) columns h (cell_under content.Rows names fields) ∙ ap (map (cell_under content.Rows names fields)) all
          ∙ picked_back names fields [] [] same refl once,
    )

-- the first columns alone
placed-take : (n : ℕ) (order : List Place) (key rest : List (List ℕ)) → placed (take n order) key rest ≡ take n (placed order key rest)
unfolding placed
placed-take zero order key rest = refl
placed-take (suc n) [] key rest = refl
placed-take (suc n) (place ∷ order) key rest = ap (λ l. cell_placed place key rest ∷ l) (placed-take n order key (rest_behind place rest))

take_written : (written : List (List ℕ)) (headers : List (List (List ℕ))) → repeats [] written ≡ false → take (length written) (column_names (written ∷ headers)) ≡ written
take_written written headers once =
    let all : column_names (written ∷ headers) ≡ written ++ filter (λ name. not (list_any (pointwise nat_eq name) written)) (distinct (all_names headers)) =
    sym (distinct-inserted (written ++ all_names headers)) ∙ inserted_more written (all_names headers) [] ∙ ap (λ l. insert_all (pointwise nat_eq) l (all_names headers)) (inserted_new written [] once)
    ∙ inserted (all_names headers) written in
    ap (take (length written)) all ∙ take_front written _
  where
    inserted_more : (xs ys ks : List (List ℕ)) → insert_all (pointwise nat_eq) ks (xs ++ ys) ≡ insert_all (pointwise nat_eq) (insert_all (pointwise nat_eq) ks xs) ys
    inserted_more [] ys ks = refl
    inserted_more (x ∷ xs) ys ks = inserted_more xs ys _

    take_front : (xs ys : List (List ℕ)) → take (length xs) (xs ++ ys) ≡ xs
    take_front [] ys = refl
    take_front (x ∷ xs) ys = ap (λ l. x ∷ l) (take_front xs ys)

take_map : (f : List ℕ → List ℕ) (n : ℕ) (xs : List (List ℕ)) → take n (map f xs) ≡ map f (take n xs)
take_map f zero xs = refl
take_map f (suc n) [] = refl
take_map f (suc n) (x ∷ xs) = ap (λ l. f x ∷ l) (take_map f n xs)

written-cells : (key written : List (List ℕ)) (headers : List (List (List ℕ))) → repeats [] written ≡ false → (f : List ℕ → List ℕ)
    → placed (take (length written) (map (place_under_key key) (column_names (written ∷ headers)))) (map f key) (map f (filter (is_beside key) (column_names (written ∷ headers)))) ≡ map f written
written-cells key written headers once f =
    placed-take (length written) _ _ _ ∙ ap (take (length written)) (placed-names key f (column_names (written ∷ headers)))
    ∙ take_map f (length written) (column_names (written ∷ headers)) ∙ ap (map f) (take_written written headers once)

pub writes-names : WritesNamesLaw
writes-names key written headers columns h once = (
  placed-header key (column_names (written ∷ headers)) columns _ h.order h.key h.rest ∙ written-cells key written headers once (λ x. x) ∙ map_same written,
  λ kind names fields. placed-cells key (column_names (written ∷ headers)) columns _ h.order h.key h.rest (cell_under kind names fields)
      ∙ written-cells key written headers once (cell_under kind names fields),
)
