-- What holds of the blocks of cells.
use Rattle.std.proofs.Common.{◌≡◌, ℕ, zero, suc, ◌+◌, ◌<◌, ◌≤◌, ◌^◌, Bool, true, false, List, [], ◌∷◌, ◌++◌, length, take, drop, get_or, refl, sym, ◌∙◌, ap, arith, append_assoc, length-append, length-drop, subst}
use Rattle.std.specs.Prelude.{◌==◌, None, Some, map, nat_eq, nat_lt, slice_get, if◌then◌else◌}
use Rattle.std.proofs.lemmas.Option.{slice_get_past, slice_get-get_or}
use Rattle.std.proofs.lemmas.List.{append-nil, get_or-drop, drop-drop, map-append, take_more}
use Rattle.std.specs.Int.{w64, to_le_bytes}
use Rattle.std.proofs.lemmas.Bool.Decides.{nat_tests, same_from_decides}
use Rattle.std.specs.Cmp.Lexicographic.{bytes_decides, pointwise, pointwise_decides}
use Rattle.std.proofs.lemmas.Nat.{from_le_bytes-to_le_bytes_8}
use native.Mathlib.Numerals.{unary_clauses}
use Rattle.std.proofs.Math.Seq.{take-append_seam, drop-append_seam}
use Rattle.keyed_rows.specs.Layout.{length_code, cell_code, code, head_len, first_len, first_cell, rest_of, cells_by, cells_of, IsBlock}

-- what a block says that begins with the length n, and has t after it
record Begins (n : ℕ) (block t : List ℕ) : Type 0 where
  len : first_len block ≡ n
  rest : drop (head_len block) block ≡ t
  room : head_len block + length t ≡ length block
  some : 0 < head_len block

begins_by : (n : ℕ) (b : Bool) → nat_lt n 255 ≡ b → n < 2 ^ 64 → (t : List ℕ) → Begins n ((if b then n ∷ [] else 255 ∷ to_le_bytes w64 n) ++ t) t
unfolding head_len first_len
begins_by n true e h t = record {
  len = rw e refl;
  rest = rw e refl;
  room = rw e (omega arith);
  some = rw e (omega arith);
}
begins_by n false e h t = record {
  len = from_le_bytes-to_le_bytes_8 n h;
  rest = refl;
  room = omega arith;
  some = omega arith;
}

begins : (n : ℕ) → n < 2 ^ 64 → (t : List ℕ) → Begins n (length_code n ++ t) t
unfolding length_code
begins n h t = begins_by n (nat_lt n 255) refl h t

-- what the block of a cell and of others says
pub record Splits (cell block t : List ℕ) : Type 0 where
  pub cell_is : first_cell block ≡ cell
  pub rest_is : rest_of block ≡ t
  pub room : head_len block + first_len block + length t ≡ length block
  pub some : 0 < head_len block

pub splits : (cell t : List ℕ) → length cell < 2 ^ 64 → Splits cell (cell_code cell ++ t) t
unfolding cell_code first_cell rest_of
splits cell t h =
    let k = begins (length cell) h (cell ++ t) in
    let e = append_assoc (length_code (length cell)) cell t in
    rw e record {
      cell_is = rw (k.len, k.rest) (take-append_seam cell t);
      rest_is = rw (k.len, k.rest) (drop-append_seam cell t);
      room = omega (arith, k.room, k.len, length-append cell t);
      some = k.some;
    }

-- ---- the cells of the bytes of cells

cell_fits : (cell t : List ℕ) → length (cell_code cell ++ t) < 2 ^ 64 → length cell < 2 ^ 64
unfolding cell_code
cell_fits cell t h = omega (arith, h, length-append (length_code (length cell) ++ cell) t, length-append (length_code (length cell)) cell)

cells_by-some : (n : ℕ) (block : List ℕ) → 0 < length block → cells_by (suc n) block ≡ first_cell block ∷ cells_by n (rest_of block)
unfolding cells_by
cells_by-some n [] h = absurd (omega arith)
cells_by-some n (x ∷ xs) h = refl

cells_by-code : (n : ℕ) (cells : List (List ℕ)) → length (code cells) ≤ n → length (code cells) < 2 ^ 64 → cells_by n (code cells) ≡ cells
unfolding cells_by code
cells_by-code zero [] h f = refl
cells_by-code (suc n) [] h f = refl
cells_by-code zero (c ∷ cs) h f =
    let k = splits c (code cs) (cell_fits c (code cs) f) in absurd (omega (arith, k.room, k.some))
cells_by-code (suc n) (c ∷ cs) h f =
    let k = splits c (code cs) (cell_fits c (code cs) f) in
    let again = cells_by-code n cs (omega (arith, k.room, k.some)) (omega (arith, k.room)) in
    cells_by-some n (cell_code c ++ code cs) (omega (arith, k.room, k.some)) ∙ rw (k.cell_is, k.rest_is, again) refl

pub cells_of-code : (cells : List (List ℕ)) → length (code cells) < 2 ^ 64 → cells_of (code cells) ≡ cells
unfolding cells_of
cells_of-code cells f = cells_by-code (length (code cells)) cells (omega arith) f

is_block-code : (cells : List (List ℕ)) → length (code cells) < 2 ^ 64 → IsBlock (code cells)
is_block-code cells f = record { coded = ap code (sym (cells_of-code cells f)); fits = f }

-- a block that is the bytes of cells
pub is_block_of : (block : List ℕ) (cells : List (List ℕ)) → block ≡ code cells → length block < 2 ^ 64 → IsBlock block
is_block_of block cells e f = subst IsBlock (sym e) (is_block-code cells (rw e at f))

pub cells_of_is : (block : List ℕ) (cells : List (List ℕ)) → block ≡ code cells → length block < 2 ^ 64 → cells_of block ≡ cells
cells_of_is block cells e f = ap cells_of e ∙ cells_of-code cells (rw e at f)

pub code-append : (xs ys : List (List ℕ)) → code (xs ++ ys) ≡ code xs ++ code ys
unfolding code
code-append [] ys = refl
code-append (x ∷ xs) ys = ap (λ t. cell_code x ++ t) (code-append xs ys) ∙ sym (append_assoc (cell_code x) (code xs) (code ys))

-- ---- the first cell of a block

pub record SplitsOff (block : List ℕ) : Type 0 where
  pub head : 0 < head_len block
  pub room : head_len block + first_len block ≤ length block
  pub cells : cells_of block ≡ first_cell block ∷ cells_of (rest_of block)
  pub rest : IsBlock (rest_of block)
  pub shorter : length (rest_of block) < length block

splits_off-code : (c : List ℕ) (cs : List (List ℕ)) → length (code (c ∷ cs)) < 2 ^ 64 → SplitsOff (code (c ∷ cs))
unfolding code
splits_off-code c cs f =
    let k = splits c (code cs) (cell_fits c (code cs) f) in
    let f' : length (code cs) < 2 ^ 64 = omega (arith, k.room) in
    record {
      head = k.some;
      room = omega (arith, k.room);
      cells = cells_of-code (c ∷ cs) f ∙ rw (k.cell_is, k.rest_is, cells_of-code cs f') refl;
      rest = rw k.rest_is (is_block-code cs f');
      shorter = rw k.rest_is (omega (arith, k.room, k.some));
    }

splits_off_by : (block : List ℕ) (cells : List (List ℕ)) → block ≡ code cells → length block < 2 ^ 64 → 0 < length block → SplitsOff block
unfolding code
splits_off_by block [] e f h = absurd (omega (arith, h, ap length e))
splits_off_by block (c ∷ cs) e f h = subst SplitsOff (sym e) (splits_off-code c cs (rw e at f))

pub splits_off : (block : List ℕ) → IsBlock block → 0 < length block → SplitsOff block
splits_off block k h = splits_off_by block (cells_of block) k.coded k.fits h

-- a block with no byte has no cell
pub cells_of_none : (block : List ℕ) → length block ≡ 0 → cells_of block ≡ []
unfolding cells_of cells_by
cells_of_none [] h = refl
cells_of_none (x ∷ xs) h = absurd (omega (arith, h))

-- ---- a length of one byte, and a longer one

pub head_len-short : (block : List ℕ) → get_or block 0 0 < 255 → head_len block ≡ 1
unfolding head_len
head_len-short block h = let e : nat_lt (get_or block 0 0) 255 ≡ true = grind (arith, nat_tests) in rw e refl

pub first_len-short : (block : List ℕ) → get_or block 0 0 < 255 → first_len block ≡ get_or block 0 0
unfolding first_len
first_len-short block h = let e : nat_lt (get_or block 0 0) 255 ≡ true = grind (arith, nat_tests) in rw e refl

pub head_len-long : (block : List ℕ) → 255 ≤ get_or block 0 0 → head_len block ≡ 9
unfolding head_len
head_len-long block h = let e : nat_lt (get_or block 0 0) 255 ≡ false = grind (arith, nat_tests) in rw e refl

-- ---- a block that is cut

pub first_cell-cut : (block : List ℕ) (head count : ℕ) → head ≡ head_len block → count ≡ first_len block → take count (drop head block) ≡ first_cell block
unfolding first_cell
first_cell-cut block head count e f = rw (e, f) refl

pub rest_of-cut : (block : List ℕ) (head count : ℕ) → head ≡ head_len block → count ≡ first_len block → drop count (drop head block) ≡ rest_of block
unfolding rest_of
rest_of-cut block head count e f = rw (e, f) refl

few_by : (n : ℕ) (block : List ℕ) → length (cells_by n block) ≤ n
unfolding cells_by
few_by zero block = omega arith
few_by (suc n) [] = omega arith
few_by (suc n) (x ∷ xs) = omega (arith, few_by n (rest_of (x ∷ xs)))

-- a block has no more cells than bytes
pub cells_few : (block : List ℕ) → length (cells_of block) ≤ length block
unfolding cells_of
cells_few block = few_by (length block) block

pub cells_fit : (block : List ℕ) → IsBlock block → length (cells_of block) < 2 ^ 64
cells_fit block k = omega (arith, cells_few block, k.fits)

-- ---- what is put after a block

pub length_code_short : (n : ℕ) → n < 255 → length_code n ≡ n ∷ []
unfolding length_code
length_code_short n h = let e : nat_lt n 255 ≡ true = grind (arith, nat_tests) in rw e refl

pub length_code_long : (n : ℕ) → 255 ≤ n → length_code n ≡ 255 ∷ to_le_bytes w64 n
unfolding length_code
length_code_long n h = let e : nat_lt n 255 ≡ false = grind (arith, nat_tests) in rw e refl

pub cell_code_is : (cell : List ℕ) → cell_code cell ≡ length_code (length cell) ++ cell
unfolding cell_code
cell_code_is cell = refl

-- ---- cells by place

pub place_past : {X : Type 0} (xs : List X) (i k : ℕ) → drop i xs ≡ [] → i ≤ k → slice_get xs k ≡ None
place_past xs i k e h = slice_get_past xs k (omega (arith, length-drop i xs, ap length e))

pub place_first : {X : Type 0} (xs : List X) (i : ℕ) (y : X) (ys : List X) → drop i xs ≡ y ∷ ys → slice_get xs i ≡ Some y
place_first xs i y ys e =
    let at : get_or xs i y ≡ y = simp (get_or-drop, unary_clauses) at (ap (λ t. get_or t 0 y) e) in
    let within : i < length xs = omega (arith, length-drop i xs, ap length e) in
    slice_get-get_or xs i y within ∙ ap Some at

pub drop_next : {X : Type 0} (xs : List X) (i : ℕ) (y : X) (ys : List X) → drop i xs ≡ y ∷ ys → drop (i + 1) xs ≡ ys
drop_next xs i y ys e = sym (drop-drop 1 i xs) ∙ ap (drop 1) e

-- ---- lists of cells by order

pub cells_of_some : (block : List ℕ) → IsBlock block → 0 < length block → cells_of block ≡ first_cell block ∷ cells_of (rest_of block)
cells_of_some block k h = (splits_off block k h).cells

-- ---- blocks with no cell, with one more, and with the same cells

pub is_block_none : (block : List ℕ) → block ≡ [] → IsBlock block
unfolding code
is_block_none block e = subst IsBlock (sym e) (is_block_of [] [] refl (omega arith))

zero_alike : (m n : ℕ) → 0 < m → 0 < n → (m == 0) ≡ (n == 0)
zero_alike m n h k = grind (arith, nat_tests)

pub none_alike : (block : List ℕ) → (length (cells_of block) == 0) ≡ (length block == 0)
unfolding cells_of cells_by
none_alike [] = refl
none_alike (x ∷ xs) = zero_alike _ _ (omega arith) (omega arith)

-- a block of cells, and one that has one more
pub record HasOneMore (old new cell : List ℕ) : Type 0 where
  pub is_block : IsBlock new
  pub cells : cells_of new ≡ cells_of old ++ cell ∷ []

code-one : (cell : List ℕ) → code (cell ∷ []) ≡ cell_code cell
unfolding code
code-one cell = append-nil (cell_code cell)

code-push : (cells : List (List ℕ)) (cell : List ℕ) → code (cells ++ cell ∷ []) ≡ code cells ++ cell_code cell
code-push cells cell = code-append cells (cell ∷ []) ∙ ap (λ t. code cells ++ t) (code-one cell)

pub one_more : (old new cell : List ℕ) → IsBlock old → new ≡ old ++ cell_code cell → length new < 2 ^ 64 → HasOneMore old new cell
one_more old new cell k e f =
    let by : new ≡ code (cells_of old ++ cell ∷ []) = e ∙ ap (λ t. t ++ cell_code cell) k.coded ∙ sym (code-push (cells_of old) cell) in
    record {
      is_block = is_block_of new (cells_of old ++ cell ∷ []) by f;
      cells = cells_of_is new (cells_of old ++ cell ∷ []) by f;
    }

same_cells : (a b : List ℕ) → IsBlock a → IsBlock b → cells_of a ≡ cells_of b → a ≡ b
same_cells a b k l e = k.coded ∙ ap code e ∙ sym l.coded

-- blocks are the same where their cells are
pub same_blocks : (a b : List ℕ) → IsBlock a → IsBlock b → pointwise nat_eq a b ≡ pointwise (pointwise nat_eq) (cells_of a) (cells_of b)
same_blocks a b k l =
    let cells = pointwise_decides bytes_decides (cells_of a) (cells_of b) in
    let bytes = bytes_decides a b in
    same_from_decides _ _ bytes ((λ t. same_cells a b k l (cells.0 t)), (λ e. cells.1 (ap cells_of e)))

-- ---- bytes that are put after a block in two parts, and cells one by one

pub put_twice : (old first second : List ℕ) {middle new whole : List ℕ} → middle ≡ old ++ first → new ≡ middle ++ second → whole ≡ first ++ second → new ≡ old ++ whole
put_twice old first second e f g = f ∙ ap (λ t. t ++ second) e ∙ append_assoc old first second ∙ sym (ap (λ t. old ++ t) g)

pub code_none : [] ≡ code []
unfolding code
code_none = refl

pub code_taken : {X : Type 0} (f : X → List ℕ) (xs : List X) (i : ℕ) (d : X) {old new : List ℕ} → i < length xs → old ≡ code (map f (take i xs)) → new ≡ old ++ cell_code (f (get_or xs i d)) → new ≡ code (map f (take (i + 1) xs))
code_taken f xs i d h e g =
    rw (take_more xs i d h, map-append f (take i xs) (get_or xs i d ∷ []), code-push (map f (take i xs)) (f (get_or xs i d)))
    (g ∙ ap (λ t. t ++ cell_code (f (get_or xs i d))) e)
