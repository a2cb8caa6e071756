-- A listing that is written cell by cell.
use Rattle.std.proofs.Common.{◌≡◌, ◌∙◌, ◌+◌, ◌-◌, ◌^◌, ℕ, suc, zero, Bool, true, false, List, [], ◌∷◌, ◌++◌, Option, Some, None, add-one, append_assoc, arith, codes, decimal, drop, filter, length, map, take, refl, sym, ap, ap₂, subst}
use Rattle.std.specs.Prelude.{option_map, slice_get, unwrap_or}
use Rattle.std.specs.Borrow.{Bor}
use Rattle.std.specs.Fmt.{char_count, format_spec, padded_integral}
use Rattle.std.specs.List.{enumerate_from, flat_map}
use Rattle.std.proofs.lemmas.List.{append-nil, drop_all, drop_more}
use Rattle.keyed_cut.specs.declared.sinks.Counts.{Counts}
use Rattle.keyed_files.specs.declared.written.Written.{Written}
use Rattle.keyed_files.specs.Writing.{PutsCells, PutsRows, text_of, writer_of}
use Rattle.keyed_cut.specs.Partitioned.{fitted}
use Rattle.csv.specs.declared.writer.WriterBuilder.{WriterBuilder}
use Rattle.keyed_requests.specs.declared.request.Form.{Form}
use Rattle.keyed_text.specs.Texts.{rows_text, text_by, writer_by}
use Rattle.keyed_cut.specs.Listing.{IsListingForm, from_names, is_from, part_number, part_row, part_rows, table_names}
use Rattle.keyed_files.proofs.WritingLemmas.{no-cells, no-rows, none-left, then-cells, then-rows}

-- a number that is written with zeros before it
pub number-padded : (n : ℕ) → padded_integral (format_spec 32 0 4 3 (2 ^ 64 - 1)) false [] (decimal n) ≡ part_number n
unfolding padded_integral char_count
number-padded n = let same : 3 - length (decimal n) - 0 - 0 ≡ 3 - length (decimal n) = omega arith in rw same (simp append-nil)

-- the cells of one more of some things, and then of the others
module _ {A : Type 0} (f : A → List (List ℕ)) (xs : List A) (i : ℕ) where
  pub each-then : (a b e : Written) (x : A) → drop i xs ≡ x ∷ drop (i + 1) xs
      → PutsCells a b (f x) → PutsCells b e (flat_map f (drop (i + 1) xs)) → PutsCells a e (flat_map f (drop i xs))
  each-then a b e x at g h =
      let P : List A → Type 0 = λ left. PutsCells a e (flat_map f left) in
      subst P (sym at) (then-cells a b e (f x) (flat_map f (drop (i + 1) xs)) g h)

  pub each-end : (a : Written) → drop i xs ≡ [] → PutsCells a a (flat_map f (drop i xs))
  each-end a at = none-left a (flat_map f (drop i xs)) (ap (flat_map f) at)

-- the row of one more part, and then of the others
module _ (count : ℕ) (tables : List Counts) (keys : List (List (List ℕ))) (i part : ℕ) where
  pub part-then : (a b e : Written) (key : List (List ℕ)) → drop i keys ≡ key ∷ drop (i + 1) keys
      → PutsRows a b (part_row count tables part key ∷ []) → PutsRows b e (part_rows count tables (part + 1) (drop (i + 1) keys))
      → PutsRows a e (part_rows count tables part (drop i keys))
  part-then a b e key at g h =
      let P : List (List (List ℕ)) → Type 0 = λ left. PutsRows a e (part_rows count tables part left) in
      subst P (sym at) (then-rows a b e (part_row count tables part key ∷ []) (part_rows count tables (part + 1) (drop (i + 1) keys)) g h)

  pub parts-end : (a : Written) → drop i keys ≡ [] → PutsRows a a (part_rows count tables part (drop i keys))
  parts-end a at =
      let P : List (List (List ℕ)) → Type 0 = λ left. PutsRows a a (part_rows count tables part left) in
      subst P (sym at) (no-rows a)

-- the names of the columns of tables whose names are held
pub stem-names : (stems : List (Bor (List ℕ))) → flat_map (λ stem. table_names stem.now) stems ≡ flat_map table_names (map (λ stem. stem.now) stems)
stem-names [] = refl
stem-names (stem ∷ stems) = ap (λ names. table_names stem.now ++ names) (stem-names stems)

-- one more cell of so many
fitted-next : (n : ℕ) (cells : List (List ℕ)) → fitted (suc n) cells ≡ fitted n cells ++ (unwrap_or (slice_get cells n) [] ∷ [])
fitted-next zero [] = refl
fitted-next zero (cell ∷ cells) = refl
fitted-next (suc n) [] = ap (λ rest. [] ∷ rest) (fitted-next n [])
fitted-next (suc n) (cell ∷ cells) = ap (λ rest. cell ∷ rest) (fitted-next n cells)

pub fitted-one : (n : ℕ) (cells : List (List ℕ)) → fitted (n + 1) cells ≡ fitted n cells ++ (unwrap_or (slice_get cells n) [] ∷ [])
fitted-one n cells = rw add-one (fitted-next n cells)

-- the cell that is found, or an empty one
pub or-empty : (found : Option (Bor (List ℕ))) (other : Bor (List ℕ)) → (unwrap_or found other).now ≡ unwrap_or (option_map (λ cell. cell.now) found) other.now
or-empty None other = refl
or-empty (Some cell) other = refl

-- the next name, where it begins as those of the key do, and where not
pub kept-this : (left : List (List ℕ)) (name : List ℕ) (rest : List (List ℕ)) → left ≡ name ∷ rest → is_from name ≡ true → from_names left ≡ name ∷ from_names rest
kept-this left name rest at is = rw (at, is) refl

pub kept-other : (left : List (List ℕ)) (name : List ℕ) (rest : List (List ℕ)) → left ≡ name ∷ rest → is_from name ≡ false → from_names left ≡ from_names rest
kept-other left name rest at is = rw (at, is) refl

-- the text of rows in the form of a listing
pub listing-written : (form : Form) → IsListingForm form → (rows : List (List (List ℕ))) → text_of form rows ≡ rows_text 44 None rows
listing-written form is rows =
    let by : writer_of form ≡ writer_by 44 None = rw (is.comma, is.comment) is.style in
    let P : WriterBuilder → Type 0 = λ w. text_by w rows ≡ rows_text 44 None rows in
    subst P (sym by) refl
