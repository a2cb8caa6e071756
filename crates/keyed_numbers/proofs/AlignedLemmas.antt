-- The digits of sums of two numbers: they come to 18 at most, and make the sums of their numbers.
use Rattle.std.proofs.Common.{◌≡◌, ℕ, zero, suc, ◌+◌, ◌-◌, ◌*◌, ◌^◌, ◌≤◌, length, nat_le, Bool, true, false, ◌&&◌, refl, ap, arith}
use Rattle.std.proofs.lemmas.Grind.{common_steps}
use Rattle.std.specs.Int.{abs_diff}
use Rattle.std.specs.Prelude.{Option, Some, None}
use Rattle.keyed_numbers.specs.Digits.{digit_at, digits_value, positional}
use Rattle.keyed_numbers.specs.Numbers.{Number, depth, units}
use Rattle.keyed_numbers.specs.AlignedDigits.{digit_of, digit_of_next, digit_of_sum}
use Rattle.keyed_numbers.specs.Decimals.{number_of}
use Rattle.keyed_numbers.specs.declared.aligned.Aligned.{Aligned}
use Rattle.keyed_numbers.specs.declared.aligned.Sum.{Sum}
use Rattle.keyed_numbers.specs.declared.decimal.Decimal.{Decimal}
use Rattle.keyed_numbers.proofs.DigitLemmas.{digit_at-bound, positional-is, positional-sum}

pub positional-none : (n : ℕ) → positional (digit_of_next None) n ≡ 0
positional-none zero = refl
positional-none (suc n) = let h : positional (digit_of_next None) n ≡ 0 = positional-none n in omega (arith, h)

pub digit_of_next-bound : (next : Option Aligned) (step : ℕ) → digit_of_next next step ≤ 9
digit_of_next-bound None step = omega arith
digit_of_next-bound (Some aligned) step = digit_at-bound aligned.zeros (number_of aligned.number).digits step

pub digit_of_sum-bound : (sum : Sum) (step : ℕ) → digit_of_sum sum step ≤ 18
digit_of_sum-bound sum step =
    let a : digit_of sum.first step ≤ 9 = digit_at-bound sum.first.zeros (number_of sum.first.number).digits step in
    let b : digit_of_next sum.next step ≤ 9 = digit_of_next-bound sum.next step in
    omega (arith, a, b)

-- the digits of a sum make the sum of its numbers
pub alone-value : (sum : Sum) (first : Aligned) (n : ℕ) → sum.first ≡ first → sum.next ≡ None
    → positional (digit_of_sum sum) n ≡ positional (digit_of first) n
alone-value sum first n f m =
    let s : positional (digit_of_sum sum) n ≡ positional (digit_of sum.first) n + positional (digit_of_next sum.next) n
    = positional-sum (digit_of sum.first) (digit_of_next sum.next) n in
    let z : positional (digit_of_next None) n ≡ 0 = positional-none n in
    let t : positional (digit_of_next sum.next) n ≡ 0 = rw m z in
    let u : positional (digit_of sum.first) n ≡ positional (digit_of first) n = ap (λ (a : Aligned). positional (digit_of a) n) f in
    omega (arith, s, t, u)

pub both-value : (sum : Sum) (first next : Aligned) (n : ℕ) → sum.first ≡ first → sum.next ≡ Some next
    → positional (digit_of_sum sum) n ≡ positional (digit_of first) n + positional (digit_of next) n
both-value sum first next n f m =
    let s : positional (digit_of_sum sum) n ≡ positional (digit_of sum.first) n + positional (digit_of_next sum.next) n
    = positional-sum (digit_of sum.first) (digit_of_next sum.next) n in
    let t : positional (digit_of_next sum.next) n ≡ positional (digit_of next) n
    = ap (λ (a : Option Aligned). positional (digit_of_next a) n) m in
    let u : positional (digit_of sum.first) n ≡ positional (digit_of first) n = ap (λ (a : Aligned). positional (digit_of a) n) f in
    omega (arith, s, t, u)

-- the digits of a number that stands below a top are its units
pub units-is : (aligned : Aligned) (decimal : Decimal) (top n : ℕ) → aligned.zeros ≡ top - (number_of decimal).top
    → aligned.number ≡ decimal → depth top (number_of decimal) ≤ n
    → positional (digit_of aligned) n ≡ units top n (number_of decimal)
units-is aligned decimal top n z d le =
    let h : positional (digit_at (top - (number_of decimal).top) (number_of decimal).digits) n
    ≡ digits_value (number_of decimal).digits * 10 ^ (n - ((top - (number_of decimal).top) + length (number_of decimal).digits))
    = positional-is (top - (number_of decimal).top) (number_of decimal).digits n le in
    rw (z, d) h

-- a number beside a sum of two, and the other way round
pub at_most-alone_both : (lower upper : Sum) (a b c : Aligned) (n : ℕ) → lower.first ≡ a → lower.next ≡ None
    → upper.first ≡ b → upper.next ≡ Some c
    → nat_le (positional (digit_of_sum lower) n) (positional (digit_of_sum upper) n)
    ≡ nat_le (positional (digit_of a) n) (positional (digit_of b) n + positional (digit_of c) n)
at_most-alone_both lower upper a b c n lf ln uf un =
    let l : positional (digit_of_sum lower) n ≡ positional (digit_of a) n = alone-value lower a n lf ln in
    let u : positional (digit_of_sum upper) n ≡ positional (digit_of b) n + positional (digit_of c) n = both-value upper b c n uf un in
    rw (l, u) refl

pub at_most-both_alone : (lower upper : Sum) (a b c : Aligned) (n : ℕ) → lower.first ≡ a → lower.next ≡ Some b
    → upper.first ≡ c → upper.next ≡ None
    → nat_le (positional (digit_of_sum lower) n) (positional (digit_of_sum upper) n)
    ≡ nat_le (positional (digit_of a) n + positional (digit_of b) n) (positional (digit_of c) n)
at_most-both_alone lower upper a b c n lf ln uf un =
    let l : positional (digit_of_sum lower) n ≡ positional (digit_of a) n + positional (digit_of b) n = both-value lower a b n lf ln in
    let u : positional (digit_of_sum upper) n ≡ positional (digit_of c) n = alone-value upper c n uf un in
    rw (l, u) refl

-- what a test and then another come to
pub and-true : (r s x y : Bool) → r ≡ x → r ≡ true → s ≡ y → s ≡ x && y
and-true r s x y e t f = grind (arith, common_steps)

pub and-false : (r x y : Bool) → r ≡ x → r ≡ false → r ≡ x && y
and-false r x y e t = grind (arith, common_steps)

-- two numbers of one sign are no more than a tolerance apart where neither is more than it above the other
pub within-is : (a b t : ℕ) → nat_le a (b + t) && nat_le b (a + t) ≡ nat_le (abs_diff a b) t
within-is a b t = grind (arith, common_steps)
