-- What digits come to, and the sums of digits under one another.
use Rattle.std.proofs.Common.{◌≡◌, ℕ, zero, suc, ◌+◌, ◌-◌, ◌*◌, ◌^◌, ◌<◌, ◌≤◌, min, take_all, nat_le, nat_lt, cond, Bool, true, false, List, [], ◌∷◌, ◌++◌, length, take, get_or, refl, sym, ◌∙◌, ap, add-one, arith}
use Rattle.std.proofs.lemmas.Grind.{common_steps, pow_more}
use Rattle.std.proofs.lemmas.List.{get_or_past}
use Rattle.std.proofs.lemmas.List.Sums.{fold_more}
use Rattle.keyed_numbers.specs.Digits.{positional, digit_at, digits_value, value_of}

-- what one sum has more than the other, as far as it is read
pub record Balance (lesser greater below above : ℕ) : Type 0 where
  pub balance : lesser + above ≡ greater + below
  pub below_two : below ≤ 1
  pub above_two : above ≤ 1

-- the same with a digit more of each, and what both have taken off
pub balance_more : (p q b a d e m : ℕ) → p + a ≡ q + b → m ≡ min (10 * b + d) (10 * a + e)
    → (10 * p + d) + (10 * a + e - m) ≡ (10 * q + e) + (10 * b + d - m)
balance_more p q b a d e m h is = omega (arith, h, is)

-- the digits of a sum make the sum
pub positional-sum : (f g : ℕ → ℕ) (k : ℕ) → positional (λ step. f step + g step) k ≡ positional f k + positional g k
positional-sum f g zero = refl
positional-sum f g (suc k) = let h : positional (λ step. f step + g step) k ≡ positional f k + positional g k = positional-sum f g k in omega (arith, h)

-- what is two ahead at a digit stays so, where the other's digits come to 18 at most
pub stays_ahead : (f g : ℕ → ℕ) (k j : ℕ) → ((step : ℕ) → f step ≤ 18) → positional f k + 2 ≤ positional g k
    → positional f (j + k) + 2 ≤ positional g (j + k)
stays_ahead f g k zero bound ahead = let e : 0 + k ≡ k = omega arith in rw e ahead
stays_ahead f g k (suc j) bound ahead =
    let h : positional f (j + k) + 2 ≤ positional g (j + k) = stays_ahead f g k j bound ahead in
    let b : f (j + k) ≤ 18 = bound (j + k) in
    let e : suc j + k ≡ suc (j + k) = omega arith in
    let r : (10 * positional f (j + k) + f (j + k)) + 2 ≤ 10 * positional g (j + k) + g (j + k) = omega (arith, h, b) in
    rw e r

-- the same at the last digit
pub ahead_at : (f g : ℕ → ℕ) (k n : ℕ) → k ≤ n → ((step : ℕ) → f step ≤ 18) → positional f k + 2 ≤ positional g k
    → positional f n + 2 ≤ positional g n
ahead_at f g k n le bound ahead =
    let e : (n - k) + k ≡ n = omega (arith, le) in
    let h : positional f ((n - k) + k) + 2 ≤ positional g ((n - k) + k) = stays_ahead f g k (n - k) bound ahead in
    rw e at h

pub nat_le-true : (x y : ℕ) → x ≤ y → true ≡ nat_le x y
nat_le-true x y h = grind arith

pub nat_le-false : (x y : ℕ) → y < x → false ≡ nat_le x y
nat_le-false x y h = grind arith

-- where more than one is left of the greater sum at a digit, that sum is greater
pub above_wins : (f g : ℕ → ℕ) (k n b a d e m : ℕ) → positional f k + a ≡ positional g k + b → d ≡ f k → e ≡ g k
    → m ≡ min (10 * b + d) (10 * a + e) → 1 < 10 * a + e - m → k < n → ((step : ℕ) → f step ≤ 18)
    → true ≡ nat_le (positional f n) (positional g n)
above_wins f g k n b a d e m h df eg is more lt bound =
    let p : (10 * positional f k + f k) + 2 ≤ 10 * positional g k + g k = omega (arith, h, df, eg, is, more) in
    let le : suc k ≤ n = omega (arith, lt) in
    let q : positional f n + 2 ≤ positional g n = ahead_at f g (suc k) n le bound p in
    nat_le-true (positional f n) (positional g n) (omega (arith, q))

-- and where it is left of the lesser one, that one is greater
pub below_wins : (f g : ℕ → ℕ) (k n b a d e m : ℕ) → positional f k + a ≡ positional g k + b → d ≡ f k → e ≡ g k
    → m ≡ min (10 * b + d) (10 * a + e) → 1 < 10 * b + d - m → k < n → ((step : ℕ) → g step ≤ 18)
    → false ≡ nat_le (positional f n) (positional g n)
below_wins f g k n b a d e m h df eg is more lt bound =
    let p : (10 * positional g k + g k) + 2 ≤ 10 * positional f k + f k = omega (arith, h, df, eg, is, more) in
    let le : suc k ≤ n = omega (arith, lt) in
    let q : positional g n + 2 ≤ positional f n = ahead_at g f (suc k) n le bound p in
    nat_le-false (positional f n) (positional g n) (omega (arith, q))

pub value_of-bound : (byte : ℕ) → value_of byte ≤ 9
value_of-bound byte = grind (arith, common_steps)

pub digit_at-bound : (before : ℕ) (digits : List ℕ) (step : ℕ) → digit_at before digits step ≤ 9
digit_at-bound before digits step =
    let b : value_of (get_or digits (step - before) 0) ≤ 9 = value_of-bound (get_or digits (step - before) 0) in
    grind (arith, common_steps)

pub digit_at-zero : (before : ℕ) (digits : List ℕ) (k : ℕ) → k < before → digit_at before digits k ≡ 0
digit_at-zero before digits k lt = grind (arith, common_steps)

pub digit_at-digit : (before : ℕ) (digits : List ℕ) (j : ℕ) → digit_at before digits (j + before) ≡ value_of (get_or digits j 0)
digit_at-digit before digits j =
    let not : nat_lt (j + before) before ≡ false = grind arith in
    let e : (j + before) - before ≡ j = omega arith in
    rw (not, e) refl

pub digit_at-behind : (before : ℕ) (digits : List ℕ) (e : ℕ) → digit_at before digits (e + (length digits + before)) ≡ 0
digit_at-behind before digits e =
    let n : e + (length digits + before) ≡ (e + length digits) + before = omega arith in
    let d : digit_at before digits ((e + length digits) + before) ≡ value_of (get_or digits (e + length digits) 0)
    = digit_at-digit before digits (e + length digits) in
    let p : get_or digits (e + length digits) 0 ≡ 0 = get_or_past digits (e + length digits) 0 (omega arith) in
    let v : digit_at before digits ((e + length digits) + before) ≡ 0 = rw p at d in
    rw n v

pub tenfold : (v p : ℕ) → v * (p * 10) ≡ 10 * (v * p)
tenfold v p = grind arith

-- no digit stands among the zeros
pub positional-zeros : (before : ℕ) (digits : List ℕ) (k : ℕ) → k ≤ before → positional (digit_at before digits) k ≡ 0
positional-zeros before digits zero le = refl
positional-zeros before digits (suc k) le =
    let h : positional (digit_at before digits) k ≡ 0 = positional-zeros before digits k (omega (arith, le)) in
    let d : digit_at before digits k ≡ 0 = digit_at-zero before digits k (omega (arith, le)) in
    omega (arith, h, d)

-- the digits after them are those of the list
pub positional-within : (before : ℕ) (digits : List ℕ) (j : ℕ) → j ≤ length digits
    → positional (digit_at before digits) (j + before) ≡ digits_value (take j digits)
positional-within before digits zero le =
    let e : 0 + before ≡ before = omega arith in
    let h : positional (digit_at before digits) before ≡ 0 = positional-zeros before digits before (omega arith) in
    rw e h
positional-within before digits (suc j) le =
    let h : positional (digit_at before digits) (j + before) ≡ digits_value (take j digits) = positional-within before digits j (omega (arith, le)) in
    let d : digit_at before digits (j + before) ≡ value_of (get_or digits j 0) = digit_at-digit before digits j in
    let m : digits_value (take (j + 1) digits) ≡ 10 * digits_value (take j digits) + value_of (get_or digits j 0)
    = fold_more (λ value digit. 10 * value + value_of digit) 0 digits j 0 (omega (arith, le)) in
    let e : suc j + before ≡ suc (j + before) = omega arith in
    let f : suc j ≡ j + 1 = omega arith in
    let r : 10 * positional (digit_at before digits) (j + before) + digit_at before digits (j + before) ≡ digits_value (take (j + 1) digits)
    = omega (arith, h, d, m) in
    rw (e, f) r

-- each place after them is a zero
pub positional-behind : (before : ℕ) (digits : List ℕ) (e : ℕ)
    → positional (digit_at before digits) (e + (length digits + before)) ≡ digits_value digits * 10 ^ e
positional-behind before digits zero =
    let h : positional (digit_at before digits) (length digits + before) ≡ digits_value (take (length digits) digits)
    = positional-within before digits (length digits) (omega arith) in
    let t : take (length digits) digits ≡ digits = take_all (length digits) digits (omega arith) in
    let n : 0 + (length digits + before) ≡ length digits + before = omega arith in
    let r : positional (digit_at before digits) (length digits + before) ≡ digits_value digits = rw t at h in
    let m : digits_value digits * 1 ≡ digits_value digits = omega arith in
    rw (n, m) r
positional-behind before digits (suc e) =
    let k : ℕ = e + (length digits + before) in
    let h : positional (digit_at before digits) (e + (length digits + before)) ≡ digits_value digits * 10 ^ e = positional-behind before digits e in
    let d : digit_at before digits (e + (length digits + before)) ≡ 0 = digit_at-behind before digits e in
    let n : suc e + (length digits + before) ≡ suc (e + (length digits + before)) = omega arith in
    let f : suc e ≡ e + 1 = omega arith in
    let w : 10 ^ (e + 1) ≡ 10 ^ e * 10 = pow_more 10 e in
    let a : digits_value digits * (10 ^ e * 10) ≡ 10 * (digits_value digits * 10 ^ e) = tenfold (digits_value digits) (10 ^ e) in
    let r : 10 * positional (digit_at before digits) (e + (length digits + before)) + digit_at before digits (e + (length digits + before))
    ≡ 10 * (digits_value digits * 10 ^ e) = omega (arith, h, d) in
    rw (n, f, w, a) r

-- the digits as a number, and a zero for each further place
pub positional-is : (before : ℕ) (digits : List ℕ) (n : ℕ) → before + length digits ≤ n
    → positional (digit_at before digits) n ≡ digits_value digits * 10 ^ (n - (before + length digits))
positional-is before digits n le =
    let e : (n - (before + length digits)) + (length digits + before) ≡ n = omega (arith, le) in
    let h : positional (digit_at before digits) ((n - (before + length digits)) + (length digits + before))
    ≡ digits_value digits * 10 ^ (n - (before + length digits)) = positional-behind before digits (n - (before + length digits)) in
    rw e at h
