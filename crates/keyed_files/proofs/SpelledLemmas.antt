-- Rows put one after the other, each in its spelling.
use Rattle.std.proofs.Common.{◌≡◌, ◌∙◌, ◌+◌, ◌++◌, ◌∷◌, [], List, ℕ, Option, append_assoc, ap, ap₂, drop, map, refl, subst, sym}
use Rattle.std.specs.Prelude.{Bool, None}
use Rattle.std.specs.List.{flat_map}
use Rattle.std.proofs.lemmas.Grind.{flat_map-append}
use Rattle.std.proofs.lemmas.List.{append-nil, map-append}
use Rattle.keyed_text.specs.Spelling.{blank_lines, body_as, cell_as, cells_as, first_quoted, row_as, row_end, shown_body}
use Rattle.keyed_text.specs.Texts.{terminator_of}
use Rattle.csv.specs.Writing.{end_text}
use Rattle.keyed_text.specs.declared.spelling.RowSpelling.{RowSpelling}
use Rattle.keyed_columns.specs.Placed.{cell_placed, placed, rest_behind}
use Rattle.keyed_columns.proofs.PlacedLemmas.{placed-next, placed-none}
use Rattle.keyed_columns.specs.declared.columns.Place.{Place}
use Rattle.keyed_requests.specs.FormBytes.{comment_of, delimiter_of}
use Rattle.keyed_requests.specs.declared.request.Form.{Form}
use Rattle.keyed_files.specs.Rows.{rows_under, table_rows}
use Rattle.keyed_files.specs.SpelledFiles.{PutsSpelled}

module _ (form : Form) where
  pub no-rows : (text : List ℕ) → PutsSpelled form text text []
  no-rows text = ([], refl, sym (append-nil text))

  pub then-rows : (a b e : List ℕ) (xs ys : List (List (List ℕ))) → PutsSpelled form a b xs → PutsSpelled form b e ys → PutsSpelled form a e (xs ++ ys)
  then-rows a b e xs ys f g =
      let row : RowSpelling × List (List ℕ) → List ℕ = λ r. row_as form.writing.style (delimiter_of form) (comment_of form) r.0 r.1 in (
        f.0 ++ g.0,
        map-append (λ (r : RowSpelling × List (List ℕ)). r.1) f.0 g.0 ∙ ap₂ (λ l m. l ++ m) f.1 g.1,
        g.2 ∙ ap (λ t. t ++ flat_map row g.0) f.2 ∙ append_assoc a (flat_map row f.0) (flat_map row g.0) ∙ ap (λ t. a ++ t) (sym (flat_map-append row f.0 g.0)),
      )

  -- the rows of one more group
  pub table-then : (order : List Place) (a b e : List ℕ) (left rest : List (List (List ℕ) × List (List (List ℕ)))) (group : List (List ℕ) × List (List (List ℕ)))
      → left ≡ group ∷ rest → PutsSpelled form a b (rows_under None order group.0 group.1) → PutsSpelled form b e (table_rows order rest)
      → PutsSpelled form a e (table_rows order left)
  table-then order a b e left rest group is g h =
      let P : List (List (List ℕ) × List (List (List ℕ))) → Type 0 = λ groups. PutsSpelled form a e (table_rows order groups) in
      subst P (sym is) (then-rows a b e (rows_under None order group.0 group.1) (table_rows order rest) g h)

  pub none-left : (text : List ℕ) (left : List (List (List ℕ))) → left ≡ [] → PutsSpelled form text text left
  none-left text left is = let P : List (List (List ℕ)) → Type 0 = λ rows. PutsSpelled form text text rows in subst P (sym is) (no-rows text)

  -- a row of one more place
  module _ (f : List (List ℕ) → List (List ℕ)) (a b e : List ℕ) (rows : List (List (List ℕ))) (i : ℕ) where
    pub row-then : (row : List (List ℕ)) → drop i rows ≡ row ∷ drop (i + 1) rows
        → PutsSpelled form a b (f row ∷ []) → PutsSpelled form b e (map f (drop (i + 1) rows)) → PutsSpelled form a e (map f (drop i rows))
    row-then row at g h =
        let P : List (List (List ℕ)) → Type 0 = λ left. PutsSpelled form a e (map f left) in
        subst P (sym at) (then-rows a b e (f row ∷ []) (map f (drop (i + 1) rows)) g h)

-- the cell of one more column in the room for a row
pub cell-placed-then : (order : List Place) (i : ℕ) (place : Place) (key keys rest next row new : List (List ℕ)) (cell : List ℕ)
    → drop i order ≡ place ∷ drop (i + 1) order → keys ≡ key → cell ≡ cell_placed place keys rest → next ≡ rest_behind place rest → new ≡ row ++ (cell ∷ [])
    → new ++ placed (drop (i + 1) order) key next ≡ row ++ placed (drop i order) key rest
cell-placed-then order i place key keys rest next row new cell at same is behind made =
    let more = drop (i + 1) order in
    let here : placed (drop i order) key rest ≡ cell ∷ placed more key next =
    ap (λ left. placed left key rest) at ∙ placed-next place more key rest
    ∙ ap (λ c. c ∷ placed more key (rest_behind place rest)) (ap (λ k. cell_placed place k rest) (sym same) ∙ sym is)
    ∙ ap (λ r. cell ∷ placed more key r) (sym behind) in
    ap (λ n. n ++ placed more key next) made ∙ append_assoc row (cell ∷ []) (placed more key next) ∙ ap (λ l. row ++ l) (sym here)

pub cells-placed : (order : List Place) (i : ℕ) (key rest row : List (List ℕ)) → drop i order ≡ [] → row ≡ row ++ placed (drop i order) key rest
cells-placed order i key rest row at = sym (ap (λ l. row ++ l) (ap (λ o. placed o key rest) at ∙ placed-none key rest) ∙ append-nil row)

-- the text of one more cell
pub cells-next : (d : ℕ) (c : Option ℕ) (quotes next : List Bool) (quoted : Bool) (cell : List ℕ) (rest left : List (List ℕ)) (body new : List ℕ)
    → left ≡ cell ∷ rest → quoted ≡ first_quoted quotes → next ≡ drop 1 quotes → new ≡ body ++ (d ∷ cell_as d c quoted cell)
    → new ++ cells_as d c next rest ≡ body ++ cells_as d c quotes left
unfolding cells_as
cells-next d c quotes next quoted cell rest left body new is first after made =
    ap (λ n. n ++ cells_as d c next rest) made ∙ append_assoc body (d ∷ cell_as d c quoted cell) (cells_as d c next rest)
    ∙ ap₂ (λ q l. body ++ (d ∷ (cell_as d c q cell ++ cells_as d c l rest))) first after
    ∙ ap (λ l. body ++ cells_as d c quotes l) (sym is)

pub cells-none : (d : ℕ) (c : Option ℕ) (quotes : List Bool) (left : List (List ℕ)) (body : List ℕ) → left ≡ [] → body ≡ body ++ cells_as d c quotes left
unfolding cells_as
cells-none d c quotes left body is = sym (ap (λ l. body ++ cells_as d c quotes l) is ∙ append-nil body)

-- the parts of the text of a row, one after the other
pub row-put : (form : Form) (spelling : RowSpelling) (row : List (List ℕ)) (old lined bodied new body end : List ℕ)
    → lined ≡ old ++ blank_lines spelling.before.items → body ≡ body_as (delimiter_of form) (comment_of form) spelling.quotes.items row
    → bodied ≡ lined ++ shown_body body → new ≡ bodied ++ end → end ≡ end_text (terminator_of (row_end form.writing.style spelling))
    → PutsSpelled form old new (row ∷ [])
row-put form spelling row old lined bodied new body end l b s n e =
    let before = blank_lines spelling.before.items in
    let shown = shown_body (body_as (delimiter_of form) (comment_of form) spelling.quotes.items row) in
    let ends = end_text (terminator_of (row_end form.writing.style spelling)) in (
      (spelling, row) ∷ [],
      refl,
      n ∙ ap₂ (λ t u. t ++ u) (s ∙ ap₂ (λ t u. t ++ shown_body u) l b) e
          ∙ append_assoc (old ++ before) shown ends ∙ append_assoc old before (shown ++ ends)
          ∙ ap (λ t. old ++ t) (sym (append-nil (before ++ (shown ++ ends)))),
    )
