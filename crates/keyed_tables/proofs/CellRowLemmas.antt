-- Rows merged cell by cell.
use Rattle.std.proofs.Common.{◌≡◌, ◌∙◌, ℕ, zero, suc, ◌&&◌, ◌==◌, ap, eqb-true, Bool, true, false, true≢false, List, [], ◌∷◌, length, Option, Some, None, arith, refl, sym, subst, map, zip, Bor, ◌⊎◌, ⊎_elim}
use Rattle.std.specs.Prelude.{if◌then◌else◌, slice_get}
use Rattle.std.specs.Iterator.{YieldsFirstRef}
use Rattle.std.specs.declared.iter.Zip.{Zip}
use Rattle.std.specs.Iterator.Adapters.{zip_first, zip_second, zip_steps}
use Rattle.eob_joins.specs.Versions.{merged_place}
use Rattle.eob_joins.specs.Cells.{AreMergedCells, same_length}
use Rattle.keyed_tables.specs.RowsByCell.{cell_eq, cell_of}

some_if : {A : Type 0} (t : Bool) (p q : A) → Some (if t then q else p) ≡ (if t then Some q else Some p)
some_if true p q = refl
some_if false p q = refl

count_of : (b p q : List (List ℕ)) → length p ≡ length b → length q ≡ length b → length (map cell_of (zip b (zip p q))) ≡ length p
count_of [] [] q l m = refl
count_of [] (p ∷ ps) q l m = absurd (omega arith)
count_of (b ∷ bs) [] q l m = absurd (omega arith)
count_of (b ∷ bs) (p ∷ ps) [] l m = absurd (omega arith)
count_of (b ∷ bs) (p ∷ ps) (q ∷ qs) l m = ap suc (count_of bs ps qs (omega arith) (omega arith))

cells_of_merge : (b p q : List (List ℕ)) → length p ≡ length b → length q ≡ length b → (i : ℕ)
    → slice_get (map cell_of (zip b (zip p q))) i ≡ merged_place cell_eq (slice_get b i) (slice_get p i) (slice_get q i)
cells_of_merge [] [] [] l m i = refl
cells_of_merge [] [] (q ∷ qs) l m i = absurd (omega arith)
cells_of_merge [] (p ∷ ps) q l m i = absurd (omega arith)
cells_of_merge (b ∷ bs) [] q l m i = absurd (omega arith)
cells_of_merge (b ∷ bs) (p ∷ ps) [] l m i = absurd (omega arith)
cells_of_merge (b ∷ bs) (p ∷ ps) (q ∷ qs) l m zero = some_if (cell_eq b p) p q
cells_of_merge (b ∷ bs) (p ∷ ps) (q ∷ qs) l m (suc i) = cells_of_merge bs ps qs (omega arith) (omega arith) i

and_left : (s t : Bool) → (s && t) ≡ true → s ≡ true
and_left true t e = refl
and_left false t e = e

and_right : (s t : Bool) → (s && t) ≡ true → t ≡ true
and_right true t e = e
and_right false t e = absurd (true≢false (sym e))

-- rows of one length are merged by their cells
pub merged_map : (b p q w : List (List ℕ)) → same_length b p q ≡ true → w ≡ map cell_of (zip b (zip p q)) → AreMergedCells cell_eq b p q w
merged_map b p q w l e =
    let ours : length p ≡ length b = eqb-true (length p) (length b) (and_left (length p == length b) (length q == length b) l) in
    let theirs : length q ≡ length b = eqb-true (length q) (length b) (and_right (length p == length b) (length q == length b) l) in
    let made : AreMergedCells cell_eq b p q (map cell_of (zip b (zip p q))) = record {
      count = count_of b p q ours theirs;
      cells = cells_of_merge b p q ours theirs;
    } in
    subst (AreMergedCells cell_eq b p q) (sym e) made

zip_none : (a : List (List ℕ)) → map cell_of (zip a []) ≡ []
zip_none [] = refl
zip_none (x ∷ xs) = refl

zip_nil : (a q : List (List ℕ)) → map cell_of (zip a (zip [] q)) ≡ []
zip_nil a q = zip_none a

zip_nil_2 : (a p : List (List ℕ)) → map cell_of (zip a (zip p [])) ≡ []
zip_nil_2 a [] = zip_none a
zip_nil_2 a (x ∷ xs) = zip_none a

-- where one of three rows of cells has ended, no cells are left to merge
pub none_left : (s t : Zip (List (List ℕ)) (Zip (List (List ℕ)) (List (List ℕ)))) (r : Option (Bor (List ℕ) × (Bor (List ℕ) × Bor (List ℕ)))) → r ≡ None
    → zip_steps (YieldsFirstRef (λ cells. cells)) (zip_steps (YieldsFirstRef (λ cells. cells)) (YieldsFirstRef (λ cells. cells))) s r t
    → map cell_of (zip (zip_first s) (zip (zip_first (zip_second s)) (zip_second (zip_second s)))) ≡ []
none_left s t (Some p) e h = absurd (cc)
none_left s t None e h =
    ⊎_elim
    (λ g. ap (λ l. map cell_of (zip l (zip (zip_first (zip_second s)) (zip_second (zip_second s))))) g.1.0)
    (λ g. ⊎_elim
    (λ k. ap (λ l. map cell_of (zip (zip_first s) (zip l (zip_second (zip_second s))))) k.1.0 ∙ zip_nil (zip_first s) (zip_second (zip_second s)))
    (λ k. ap (λ l. map cell_of (zip (zip_first s) (zip (zip_first (zip_second s)) l))) k.1.0 ∙ zip_nil_2 (zip_first s) (zip_first (zip_second s)))
    g.1)
    h
