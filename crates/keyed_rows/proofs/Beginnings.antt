-- Keys of which one begins with a lesser number than the other.
use Rattle.std.proofs.Common.{◌≡◌, ◌∙◌, ℕ, zero, suc, ◌+◌, ◌*◌, ◌^◌, ◌<◌, List, [], ◌∷◌, get_or, drop, arith, inl, inr, refl, sym, ap}
use Rattle.std.proofs.lemmas.Bool.{cases_order}
use Rattle.std.proofs.lemmas.Cmp.{by_ranked, ranked}
use Rattle.std.proofs.lemmas.Nat.{mul-add-lt}
use Rattle.std.specs.Cmp.{nat_cmp_total, tied_itself}
use Rattle.std.specs.Cmp.Lexicographic.{lists_total, slice_cmp}
use Rattle.std.specs.Ordering.{nat_cmp, ordering_reverse}
use Rattle.std.specs.declared.cmp.Ordering.{Ordering}
use Rattle.std.specs.declared.cmp.Ordering.TheVariants.{Less, Equal}
use Rattle.keyed_rows.specs.Beginning.{Begins, first_bytes, key_cell}

abbrev Bytes : List ℕ → Type 0
Bytes xs = (k : ℕ) → get_or xs k 0 < 256

bytes_behind : (xs : List ℕ) → Bytes xs → Bytes (drop 1 xs)
bytes_behind [] b k = b k
bytes_behind (x ∷ xs) b k = b (suc k)

below : (x y : ℕ) → x < y → nat_cmp x y ≡ Less
below x y h = by_ranked (x < y) (x ≡ y) (y < x) (nat_cmp x y) (ranked x y (nat_cmp x y) refl)
    (λ e l. e) (λ e l. absurd (omega (arith, h, l))) (λ e l. absurd (omega (arith, h, l)))

first_less : (xs ys : List ℕ) → get_or xs 0 0 < get_or ys 0 0 → slice_cmp nat_cmp xs ys ≡ Less
first_less [] [] h = absurd (omega (arith, h))
first_less [] (y ∷ ys) h = refl
first_less (x ∷ xs) [] h = absurd (omega (arith, h))
first_less (x ∷ xs) (y ∷ ys) h = rw (below x y h) refl

next_less : (xs ys : List ℕ) → get_or xs 0 0 ≡ get_or ys 0 0 → slice_cmp nat_cmp (drop 1 xs) (drop 1 ys) ≡ Less → slice_cmp nat_cmp xs ys ≡ Less
next_less [] [] e h = h
next_less [] (y ∷ ys) e h = refl
next_less (x ∷ []) [] e h = absurd (cc)
next_less (x ∷ z ∷ xs) [] e h = absurd (cc)
next_less (x ∷ xs) (y ∷ ys) e h = rw (e, tied_itself nat_cmp_total y) h

bound : (n : ℕ) (xs : List ℕ) → Bytes xs → first_bytes n xs < 256 ^ n
bound zero xs b = omega arith
bound (suc n) xs b =
    let rest : first_bytes n (drop 1 xs) < 256 ^ n = bound n (drop 1 xs) (bytes_behind xs b) in
    let all : get_or xs 0 0 * 256 ^ n + first_bytes n (drop 1 xs) < 256 ^ n * 256 = mul-add-lt (get_or xs 0 0) (256 ^ n) (first_bytes n (drop 1 xs)) 256 (b 0) rest in
    omega (arith, all)

-- a cell whose first bytes make a lesser number is less
less : (n : ℕ) (xs ys : List ℕ) → Bytes xs → Bytes ys → first_bytes n xs < first_bytes n ys → slice_cmp nat_cmp xs ys ≡ Less
less zero xs ys b c h = absurd (omega (arith, h))
less (suc n) xs ys b c h = elim (cases_order (get_or xs 0 0) (get_or ys 0 0)) [
  | inl e ↦ next_less xs ys e (less n (drop 1 xs) (drop 1 ys) (bytes_behind xs b) (bytes_behind ys c) (rest_less n xs ys e h))
  | inr e ↦ elim e [ inl l ↦ first_less xs ys l | inr g ↦ absurd (not_less n xs ys c g h) ]
]
  where
    rest_less : (n : ℕ) (xs ys : List ℕ) → get_or xs 0 0 ≡ get_or ys 0 0 → first_bytes (suc n) xs < first_bytes (suc n) ys → first_bytes n (drop 1 xs) < first_bytes n (drop 1 ys)
    rest_less n xs ys e h =
        let same : get_or xs 0 0 * 256 ^ n ≡ get_or ys 0 0 * 256 ^ n = ap (λ x. x * 256 ^ n) e in
        omega (arith, same, h)

    not_less : (n : ℕ) (xs ys : List ℕ) → Bytes ys → get_or ys 0 0 < get_or xs 0 0 → first_bytes (suc n) xs < first_bytes (suc n) ys → ⊥
    not_less n xs ys c g h =
        let rest : first_bytes n (drop 1 ys) < 256 ^ n = bound n (drop 1 ys) (bytes_behind ys c) in
        let all : get_or ys 0 0 * 256 ^ n + first_bytes n (drop 1 ys) < 256 ^ n * get_or xs 0 0 = mul-add-lt (get_or ys 0 0) (256 ^ n) (first_bytes n (drop 1 ys)) (get_or xs 0 0) g rest in
        omega (arith, all, h)

-- the order of keys
cells_less : (xs ys : List (List ℕ)) → slice_cmp nat_cmp (key_cell xs) (key_cell ys) ≡ Less → slice_cmp (slice_cmp nat_cmp) xs ys ≡ Less
cells_less [] [] h = absurd (cc)
cells_less [] (y ∷ ys) h = refl
cells_less (x ∷ xs) [] h = absurd (none_less x h)
  where
    none_less : (xs : List ℕ) → slice_cmp nat_cmp xs [] ≡ Less → ⊥
    none_less [] h = absurd (cc)
    none_less (x ∷ xs) h = absurd (cc)
cells_less (x ∷ xs) (y ∷ ys) h = rw h refl

begins_less : (xs ys : List (List ℕ)) (m n : ℕ) → Begins (key_cell xs) m → Begins (key_cell ys) n → m < n → slice_cmp (slice_cmp nat_cmp) xs ys ≡ Less
begins_less xs ys m n b c h = cells_less xs ys (less 8 (key_cell xs) (key_cell ys) b.bytes c.bytes (omega (arith, b.value, c.value, h)))

-- where two beginnings differ, the keys are in their order
pub begins_order : (xs ys : List (List ℕ)) (m n : ℕ) (r : Ordering) → Begins (key_cell xs) m → Begins (key_cell ys) n → r ≡ nat_cmp m n → (r ≡ Equal → ⊥) → r ≡ slice_cmp (slice_cmp nat_cmp) xs ys
begins_order xs ys m n r b c e d = by_ranked (m < n) (m ≡ n) (n < m) r (ranked m n r e)
    (λ f l. f ∙ sym (begins_less xs ys m n b c l))
    (λ f l. absurd (d f))
    (λ f l. f ∙ sym ((lists_total (lists_total nat_cmp_total)).antisymm xs ys ∙ ap ordering_reverse (begins_less ys xs n m c b l)))
