-- Calls that write rows, one after the other.
use Rattle.std.proofs.Common.{◌≡◌, ◌==◌, ◌∙◌, ◌+◌, ℕ, Bool, None, Some, true, false, length, List, [], ◌∷◌, ◌++◌, add-one, drop, map, refl, subst, sym, ap}
use Rattle.std.specs.Prelude.{if◌then◌else◌}
use Rattle.keyed_text.proofs.WriteLemmas as one
use Rattle.keyed_requests.specs.declared.request.Form.{Form}
use Rattle.keyed_columns.specs.declared.columns.Place.{Place}
use Rattle.keyed_columns.proofs.PlacedLemmas.{placed-next, placed-none}
use Rattle.keyed_columns.specs.Placed.{cell_placed, placed, rest_behind}
use Rattle.keyed_files.specs.declared.written.Written.{Written}
use Rattle.keyed_files.specs.JoinedRows.{each_before, join_heading}
use Rattle.keyed_files.specs.Rows.{rows_under, table_rows}
use Rattle.keyed_files.specs.Writing.{EndsRow, PutsCells, PutsRows, Wrote, bytes_in, writer_of}

pub no-cells : (a : Written) → PutsCells a a []
no-cells a = one.cells-none bytes_in a.rows

pub then-cells : (a b e : Written) (xs ys : List (List ℕ)) → PutsCells a b xs → PutsCells b e ys → PutsCells a e (xs ++ ys)
then-cells a b e xs ys f g = one.cells-more bytes_in a.rows b.rows e.rows xs ys f g

pub then-end : (a b e : Written) (xs : List (List ℕ)) → PutsCells a b xs → EndsRow b e → PutsRows a e (xs ∷ [])
then-end a b e xs f g = one.cells-row bytes_in a.rows b.rows e.rows xs f g

pub no-rows : (a : Written) → PutsRows a a []
no-rows a = one.rows-none bytes_in a.rows

pub then-rows : (a b e : Written) (xs ys : List (List (List ℕ))) → PutsRows a b xs → PutsRows b e ys → PutsRows a e (xs ++ ys)
then-rows a b e xs ys f g = one.rows-more bytes_in a.rows b.rows e.rows xs ys f g

-- the next cell, and then the others that are left
pub cell-then : (a b e : Written) (left : List (List ℕ)) (cell : List ℕ) (rest : List (List ℕ)) → left ≡ cell ∷ rest
    → PutsCells a b (cell ∷ []) → PutsCells b e rest → PutsCells a e left
cell-then a b e left cell rest is f g = rw is (then-cells a b e (cell ∷ []) rest f g)

-- nothing is left
pub none-left : (a : Written) (left : List (List ℕ)) → left ≡ [] → PutsCells a a left
none-left a left is = rw is (no-cells a)

pub no-rows-left : (a : Written) (left : List (List (List ℕ))) → left ≡ [] → PutsRows a a left
no-rows-left a left is = rw is (no-rows a)

-- a row of one more place
module _ (f : List (List ℕ) → List (List ℕ)) (a b e : Written) (rows : List (List (List ℕ))) (i : ℕ) where
  pub row-then : (row : List (List ℕ)) → drop i rows ≡ row ∷ drop (i + 1) rows
      → PutsRows a b (f row ∷ []) → PutsRows b e (map f (drop (i + 1) rows)) → PutsRows a e (map f (drop i rows))
  row-then row at g h =
      let P : List (List (List ℕ)) → Type 0 = λ left. PutsRows a e (map f left) in
      subst P (sym at) (then-rows a b e (f row ∷ []) (map f (drop (i + 1) rows)) g h)

-- the cell of one more column
pub place-then : (a b e : Written) (order : List Place) (i : ℕ) (place : Place) (key keys rest next : List (List ℕ)) (cell : List ℕ)
    → drop i order ≡ place ∷ drop (i + 1) order → keys ≡ key → cell ≡ cell_placed place keys rest → next ≡ rest_behind place rest
    → PutsCells a b (cell ∷ []) → PutsCells b e (placed (drop (i + 1) order) key next) → PutsCells a e (placed (drop i order) key rest)
place-then a b e order i place key keys rest next cell at same is behind g h =
    let more = drop (i + 1) order in
    let here : placed (drop i order) key rest ≡ cell ∷ placed more key next =
    ap (λ left. placed left key rest) at ∙ placed-next place more key rest
    ∙ ap (λ c. c ∷ placed more key (rest_behind place rest)) (ap (λ k. cell_placed place k rest) (sym same) ∙ sym is)
    ∙ ap (λ r. cell ∷ placed more key r) (sym behind) in
    cell-then a b e _ cell (placed more key next) here g h

-- no column is left
pub places-end : (a : Written) (order : List Place) (i : ℕ) (key rest : List (List ℕ)) → drop i order ≡ [] → PutsCells a a (placed (drop i order) key rest)
places-end a order i key rest at = none-left a _ (ap (λ left. placed left key rest) at ∙ placed-none key rest)

-- the rows of a join, one place after the other
pub each-none : {A : Type 0} (f : ℕ → List A) → each_before f 0 ≡ []
unfolding each_before
each-none f = refl

pub each-next : {A : Type 0} (f : ℕ → List A) (n : ℕ) → each_before f (n + 1) ≡ each_before f n ++ f n
unfolding each_before
each-next f n = rw add-one refl

pub place-more : (f : ℕ → List (List (List ℕ))) (a b e : Written) (n : ℕ) → PutsRows a b (each_before f n) → PutsRows b e (f n) → PutsRows a e (each_before f (n + 1))
place-more f a b e n g h =
    let P : List (List (List ℕ)) → Type 0 = λ rows. PutsRows a e rows in
    subst P (sym (each-next f n)) (then-rows a b e (each_before f n) (f n) g h)

pub places-all : (f : ℕ → List (List (List ℕ))) (a b : Written) (n m : ℕ) → n ≡ m → PutsRows a b (each_before f n) → PutsRows a b (each_before f m)
places-all f a b n m is g = let P : ℕ → Type 0 = λ k. PutsRows a b (each_before f k) in subst P is g

-- rows that were written, and more
pub wrote-more : (form : Form) (a b : Written) (rows more : List (List (List ℕ))) → Wrote form rows a → PutsRows a b more → Wrote form (rows ++ more) b
wrote-more form a b rows more h g = g (writer_of form) (Some []) rows h

-- the header of a join
pub some-heading : (a b : Written) (names : List (List ℕ)) → (length names == 0) ≡ false → PutsRows a b (names ∷ []) → PutsRows a b (join_heading names)
some-heading a b [] is g = cc
some-heading a b (name ∷ names) is g = g

-- the header of a table
pub heading-if : (form : Form) (w : Written) (row : List (List ℕ)) (has : Bool) → has ≡ true → Wrote form (row ∷ []) w → Wrote form (if has then row ∷ [] else []) w
heading-if form w row has is h = let P : Bool → Type 0 = λ b. Wrote form (if b then row ∷ [] else []) w in subst P (sym is) h

-- the rows of one more group
pub table-then : (order : List Place) (a b e : Written) (left rest : List (List (List ℕ) × List (List (List ℕ)))) (group : List (List ℕ) × List (List (List ℕ)))
    → left ≡ group ∷ rest → PutsRows a b (rows_under None order group.0 group.1) → PutsRows b e (table_rows order rest) → PutsRows a e (table_rows order left)
table-then order a b e left rest group is g h =
    let P : List (List (List ℕ) × List (List (List ℕ))) → Type 0 = λ groups. PutsRows a e (table_rows order groups) in
    subst P (sym is) (then-rows a b e (rows_under None order group.0 group.1) (table_rows order rest) g h)
