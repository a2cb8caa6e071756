-- Which rows a report shows of changes by key, and as what: a left value is a row that was removed, a right value one that was added, and
-- both values are a row that changed, before and after.
use Rattle.std.specs.Prelude.{◌≡◌, ℕ, ◌-◌, Bool, false, true, not, List, [], ◌∷◌, ◌++◌, Option, Some, None, codes, count_by, filter, flat_map, map, nat_eq, nat_le, option_map, option_to_list, take, unwrap_or, if◌then◌else◌}
use Rattle.std.specs.List.{enumerate_from}
use Rattle.std.specs.Borrow.{Bor}
use Rattle.std.specs.Cmp.Lexicographic.{pointwise}
use Rattle.std.specs.Option.{option_eq}
use Rattle.indexmap.specs.IndexMap.{IndexMap, get_by}
use Rattle.either_or_both.specs.Prelude.{aligned, left_place, map_places, option_zip, right_place}
use Rattle.eob_both.specs.declared.either_or_both.EitherOrBoth.{EitherOrBoth}
use Rattle.eob_both.specs.declared.either_or_both.EitherOrBoth.TheVariants.{Left, Both, Right}

-- what is said of a row
abbrev pub word_of : {R : Type 0} → EitherOrBoth R R → List ℕ
word_of (Left old) = codes "removed"
word_of (Both old new) = codes "changed"
word_of (Right new) = codes "added"

-- the item of a list of one
abbrev pub only : {A : Type 0} → List A → Option A
only [] = None
only (x ∷ []) = Some x
only (x ∷ (y ∷ xs)) = None

-- of each row that goes that it was removed, and then of each that comes that it was added
abbrev pub each_of : {R : Type 0} → List R → List R → List (EitherOrBoth R R)
each_of gone come = map (λ row. Left row) gone ++ map (λ row. Right row) come

-- what is told of rows that go and of rows that come: of one each that this row changed, else of each that it was removed or added
abbrev pub changed_or_each : {R : Type 0} → List R → List R → List (EitherOrBoth R R)
changed_or_each gone come = unwrap_or (option_map (λ rows. Both rows.0 rows.1 ∷ []) (option_zip (only gone) (only come)))
    (each_of gone come)

-- the rows under a key: none where it is absent
abbrev pub rows_at : {R : Type 0} → Option (List R) → List R
rows_at rows = unwrap_or rows []

-- whether a row that is told differs, where `same` says which rows have the same cells as these are compared: one that went or came does
abbrev pub differs : {R : Type 0} → (R → R → Bool) → EitherOrBoth R R → Bool
differs same (Left old) = true
differs same (Both old new) = not (same old new)
differs same (Right new) = true

-- rows, of which `eq` says which are the same
module _ {R : Type 0} (eq : R → R → Bool) where
  -- how many of them are the same as one
  abbrev pub count_of : R → List R → ℕ
  count_of row rows = count_by (λ other. eq other row) rows

  -- whether other rows have none left for the row at a place: as many like it as they have stand before it
  abbrev pub is_lone : List R → List R → ℕ × R → Bool
  is_lone rows others row = nat_le (count_of row.1 others) (count_of row.1 (take row.0 rows))

  -- the rows that others lack, each as often as there are more of it, in their order: of those that are the same the last ones
  abbrev pub lone : List R → List R → List R
  lone rows others = map (λ row. row.1) (filter (is_lone rows others) (enumerate_from 0 rows))

  -- what is told of the rows of a key before and after
  abbrev pub told : List R → List R → List (EitherOrBoth R R)
  told old new = changed_or_each (lone old new) (lone new old)

  -- what is shown of them: where a key may have several rows what is told of these, and else each row beside the other one
  abbrev pub shown_of : Bool → List R → List R → List (EitherOrBoth R R)
  shown_of groups old new = if groups then told old new else aligned old new

  -- the same with the key, where a version that lacks it has no rows
  abbrev pub rows_of_key : {K : Type 0} → Bool → K × EitherOrBoth (List R) (List R) → List (K × EitherOrBoth R R)
  rows_of_key groups change = map (λ row. (change.0, row))
      (shown_of groups (rows_at (left_place change.1)) (rows_at (right_place change.1)))

  -- the rows that are shown of changes, in the order of these
  abbrev pub row_changes : {K : Type 0} → Bool → List (K × EitherOrBoth (List R) (List R)) → List (K × EitherOrBoth R R)
  row_changes groups changes = flat_map (rows_of_key groups) changes

  -- what is told of the rows of a key where their cells are compared so
  abbrev pub told_by : (R → R → Bool) → List R → List R → List (EitherOrBoth R R)
  told_by same old new = filter (differs same) (told old new)

  -- others lack a row as often as it stands more often here than there
  abbrev pub LoneCountLaw : Type 0
  LoneCountLaw = (row : R) (rows others : List R) → count_of row (lone rows others) ≡ count_of row rows - count_of row others

  -- what is told of several rows is the same where their cells are compared as they stand
  abbrev pub ToldDiffersLaw : Type 0
  ToldDiffersLaw = (old new : List R) → told_by eq old new ≡ told old new

  -- of one row each or none, that are not the same: each beside the other one is shown unless they have the same cells as these are
  -- compared, and this is what is told of them
  abbrev pub OneRowEachLaw : Type 0
  OneRowEachLaw = (same : R → R → Bool) (old new : Option R) → option_eq eq old new ≡ false
      → told_by same (option_to_list old) (option_to_list new)
      ≡ (if option_eq same old new then [] else shown_of false (option_to_list old) (option_to_list new))

  -- of changes of one row each the rows that are shown are these
  abbrev pub PairsLaw : Type 0 → Type 0
  PairsLaw K = (rows : List (K × EitherOrBoth R R))
      → row_changes false (map (λ row. (row.0, map_places (λ old. old ∷ []) (λ new. new ∷ []) row.1)) rows) ≡ rows

-- whether two rows have the same cells, to the byte
abbrev pub rows_eq : List (List ℕ) → List (List ℕ) → Bool
rows_eq row other = pointwise (pointwise nat_eq) row other

-- how often a row is there by a map of counts
abbrev pub count_in : {S : Type 0} → IndexMap (Bor (List (List ℕ))) ℕ S → List (List ℕ) → ℕ
count_in counts row = unwrap_or (get_by (λ other. rows_eq row other.now) counts) 0

-- what stands behind the references of a row that changed
abbrev pub row_behind : Bor (List (List ℕ)) × EitherOrBoth (Bor (List (List ℕ))) (Bor (List (List ℕ)))
    → List (List ℕ) × EitherOrBoth (List (List ℕ)) (List (List ℕ))
row_behind row = (row.0.now, map_places (λ cells. cells.now) (λ cells. cells.now) row.1)
