-- Rows whose cells are compared as their columns are.
use Rattle.std.proofs.Common.{◌≡◌, ◌++◌, ◌&&◌, ◌⊎◌, ⊎_elim, inl, inr, ℕ, Bool, Bor, List, [], ◌∷◌, append_assoc, length, zip, Option, None, Some, option_map, arith, ap, refl}
use Rattle.std.specs.Cmp.Lexicographic.{pointwise}
use Rattle.std.specs.Iterator.{YieldsFirstRef}
use Rattle.std.specs.Iterator.Adapters.{zip_first, zip_second, zip_steps}
use Rattle.std.specs.List.{list_all}
use Rattle.std.specs.Slice.Iter.{iter_rest, iter_steps}
use Rattle.std.specs.declared.iter.Zip.{Zip}
use Rattle.std.specs.declared.slice.Iter.{Iter}
use Rattle.eob_both.proofs.SideLemmas.{filter_map-push_none, filter_map-push_some}
use Rattle.eob_joins.specs.Tables.{kept}
use Rattle.keyed_numbers.specs.declared.alike.Alike.{Alike}
use Rattle.keyed_jobs.specs.ByNumber.{settled_cell, settled_cells}

-- lists of one length are compared pair by pair
pub each_pair : {A B : Type 0} (E : A → B → Bool) (xs : List A) (ys : List B) → length xs ≡ length ys
    → list_all (λ p. E p.0 p.1) (zip xs ys) ≡ pointwise E xs ys
each_pair E [] [] l = refl
each_pair E [] (y ∷ ys) l = absurd (omega arith)
each_pair E (x ∷ xs) [] l = absurd (omega arith)
each_pair E (x ∷ xs) (y ∷ ys) l = ap (λ b. E x y && b) (each_pair E xs ys (omega arith))

behind : (merged : List (List ℕ)) (cell : List ℕ) (rest : Option (List (List ℕ)))
    → option_map (λ r. (merged ++ cell ∷ []) ++ r) rest ≡ option_map (λ r. merged ++ r) (option_map (λ r. cell ∷ r) rest)
behind merged cell None = refl
behind merged cell (Some r) = ap Some (append_assoc merged (cell ∷ []) r)

-- one cell more
pub settled-more : (merged : List (List ℕ)) (cell : List ℕ) (z : Alike × (List ℕ × (List ℕ × List ℕ))) (zs : List (Alike × (List ℕ × (List ℕ × List ℕ))))
    → settled_cell z.0 z.1.0 z.1.1.0 z.1.1.1 ≡ Some cell
    → option_map (λ r. (merged ++ cell ∷ []) ++ r) (settled_cells zs) ≡ option_map (λ r. merged ++ r) (settled_cells (z ∷ zs))
settled-more merged cell z zs e = rw e (behind merged cell (settled_cells zs))

-- and one that is not settled
pub settled-none : (merged : List (List ℕ)) (z : Alike × (List ℕ × (List ℕ × List ℕ))) (zs : List (Alike × (List ℕ × (List ℕ × List ℕ))))
    → settled_cell z.0 z.1.0 z.1.1.0 z.1.1.1 ≡ None → option_map (λ r. merged ++ r) (settled_cells (z ∷ zs)) ≡ None
settled-none merged z zs e = rw e refl

-- the cells of three rows that are still to come, each with how its column is compared
abbrev Three : Type 0
Three = Zip (List (List ℕ)) (Zip (List (List ℕ)) (List (List ℕ)))

abbrev Four : Type 0
Four = Zip (Iter Alike) Three

abbrev three_left : Three → List (List ℕ × (List ℕ × List ℕ))
three_left s = zip (zip_first s) (zip (zip_first (zip_second s)) (zip_second (zip_second s)))

abbrev pub still : Four → List (Alike × (List ℕ × (List ℕ × List ℕ)))
still s = zip (iter_rest (zip_first s)) (three_left (zip_second s))

abbrev Steps3 : Three → Option (Bor (List ℕ) × (Bor (List ℕ) × Bor (List ℕ))) → Three → Type 0
Steps3 = zip_steps (YieldsFirstRef (λ cells. cells)) (zip_steps (YieldsFirstRef (λ cells. cells)) (YieldsFirstRef (λ cells. cells)))

abbrev Steps : Four → Option (Bor Alike × (Bor (List ℕ) × (Bor (List ℕ) × Bor (List ℕ)))) → Four → Type 0
Steps = zip_steps iter_steps Steps3

zip_none : {A B : Type 0} (a : List A) (b : List B) → (a ≡ []) ⊎ (b ≡ []) → zip a b ≡ []
zip_none [] b e = refl
zip_none (x ∷ xs) [] e = refl
zip_none (x ∷ xs) (y ∷ ys) e = ⊎_elim (λ g. absurd (cc)) (λ g. absurd (cc)) e

nil_of_len : {A : Type 0} (xs : List A) → length xs ≡ 0 → xs ≡ []
nil_of_len [] e = refl
nil_of_len (x ∷ xs) e = absurd (omega arith)

-- three cells are taken, or one of the rows has ended
pub cells-then : (s t : Four) (p : Bor Alike × (Bor (List ℕ) × (Bor (List ℕ) × Bor (List ℕ)))) → Steps s (Some p) t
    → still s ≡ (p.0.now, (p.1.0.now, (p.1.1.0.now, p.1.1.1.now))) ∷ still t
cells-then s t p h = rw (h.0, h.1.0, h.1.1.0, h.1.1.1) refl

three-none : (s t : Three) → Steps3 s None t → three_left s ≡ []
three-none s t h =
    ⊎_elim
    (λ g. zip_none (zip_first s) (zip (zip_first (zip_second s)) (zip_second (zip_second s))) (inl g.1.0))
    (λ g. zip_none (zip_first s) (zip (zip_first (zip_second s)) (zip_second (zip_second s))) (inr
    (zip_none (zip_first (zip_second s)) (zip_second (zip_second s)) (⊎_elim (λ k. inl k.1.0) (λ k. inr k.1.0) g.1))))
    h

pub none-left : (s t : Four) (r : Option (Bor Alike × (Bor (List ℕ) × (Bor (List ℕ) × Bor (List ℕ))))) → r ≡ None → Steps s r t → still s ≡ []
none-left s t (Some p) e h = absurd (cc)
none-left s t None e h =
    ⊎_elim
    (λ g. zip_none (iter_rest (zip_first s)) (three_left (zip_second s)) (inl (nil_of_len _ g.1.0)))
    (λ g. zip_none (iter_rest (zip_first s)) (three_left (zip_second s)) (inr (three-none (zip_second s) g.0 g.1)))
    h

-- one more key, of which something stands or not
pub kept-some : {K V W : Type 0} (g : V → Option W) (zs : List (K × V)) (key : K) (v : V) (w : W) → g v ≡ Some w
    → kept g (zs ++ (key, v) ∷ []) ≡ kept g zs ++ (key, w) ∷ []
kept-some g zs key v w e = filter_map-push_some (λ z. option_map (λ w. (z.0, w)) (g z.1)) zs (key, v) (key, w) (ap (option_map (λ w. (key, w))) e)

pub kept-none : {K V W : Type 0} (g : V → Option W) (zs : List (K × V)) (key : K) (v : V) → g v ≡ None → kept g (zs ++ (key, v) ∷ []) ≡ kept g zs
kept-none g zs key v e = filter_map-push_none (λ z. option_map (λ w. (z.0, w)) (g z.1)) zs (key, v) (ap (option_map (λ w. (key, w))) e)
