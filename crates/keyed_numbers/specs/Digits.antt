-- Digits as bytes, and what they come to.
use Rattle.std.specs.Prelude.{ℕ, zero, suc, ◌+◌, ◌-◌, ◌*◌, cond, List, get_or, nat_lt}
use Rattle.std.specs.List.{fold}
use Rattle.std.specs.Char.{is_ascii_digit}

-- the value of a digit; a byte that is none counts 0
abbrev pub value_of : ℕ → ℕ
value_of byte = cond (is_ascii_digit byte) (byte - 48) 0

-- the number that digits are
abbrev pub digits_value : List ℕ → ℕ
digits_value digits = fold (λ value digit. 10 * value + value_of digit) 0 digits

-- the digit at a step, of digits that so many zeros stand before, and zeros after
abbrev pub digit_at : ℕ → List ℕ → ℕ → ℕ
digit_at zeros digits step = cond (nat_lt step zeros) 0 (value_of (get_or digits (step - zeros) 0))

-- the number that the first digits are, so many, where f gives the digit at each step
abbrev pub positional : (ℕ → ℕ) → ℕ → ℕ
positional f zero = 0
positional f (suc k) = 10 * positional f k + f k
