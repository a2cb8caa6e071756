-- Numbers that are near to one another, by the digits that stand under one another.
use mathlib.Core.Bool.{beq}
use Rattle.std.proofs.Common.{◌≡◌, ℕ, ◌+◌, ◌-◌, ◌≤◌, max, nat_le, Bool, true, false, ◌&&◌, refl, sym, ◌∙◌, ap, arith}
use Rattle.std.specs.Int.{abs_diff}
use Rattle.keyed_numbers.specs.Digits.{positional}
use Rattle.keyed_numbers.specs.Numbers.{Number, apart, depth, depth_of, is_near, is_near_in, top_of, units}
use Rattle.keyed_numbers.specs.AlignedDigits.{digit_of}
use Rattle.keyed_numbers.specs.Decimals.{number_of}
use Rattle.keyed_numbers.specs.declared.aligned.Aligned.{Aligned}
use Rattle.keyed_numbers.specs.declared.decimal.Decimal.{Decimal}
use Rattle.keyed_numbers.proofs.AlignedLemmas.{units-is, within-is}

pub apart-same : (p q : Bool) (x y : ℕ) → beq p q ≡ true → apart p q x y ≡ abs_diff x y
apart-same true true x y e = refl
apart-same true false x y e = let no : ⊥ = cc in absurd no
apart-same false true x y e = let no : ⊥ = cc in absurd no
apart-same false false x y e = refl

pub apart-other : (p q : Bool) (x y : ℕ) → beq p q ≡ false → apart p q x y ≡ x + y
apart-other true true x y e = let no : ⊥ = cc in absurd no
apart-other true false x y e = refl
apart-other false true x y e = refl
apart-other false false x y e = let no : ⊥ = cc in absurd no

-- how three numbers stand under one another
pub record Stand (t a b : Decimal) (at bt tt : Aligned) (top n : ℕ) : Type 0 where
  pub top_is : top ≡ top_of (number_of a) (number_of b) (number_of t)
  pub depth_is : n ≡ depth_of top (number_of a) (number_of b) (number_of t)
  pub a_zeros : at.zeros ≡ top - (number_of a).top
  pub a_number : at.number ≡ a
  pub b_zeros : bt.zeros ≡ top - (number_of b).top
  pub b_number : bt.number ≡ b
  pub t_zeros : tt.zeros ≡ top - (number_of t).top
  pub t_number : tt.number ≡ t

pub units-a : (t a b : Decimal) (at bt tt : Aligned) (top n : ℕ) → Stand t a b at bt tt top n
    → positional (digit_of at) n ≡ units top n (number_of a)
units-a t a b at bt tt top n h = units-is at a top n h.a_zeros h.a_number (omega (arith, h.depth_is))

pub units-b : (t a b : Decimal) (at bt tt : Aligned) (top n : ℕ) → Stand t a b at bt tt top n
    → positional (digit_of bt) n ≡ units top n (number_of b)
units-b t a b at bt tt top n h = units-is bt b top n h.b_zeros h.b_number (omega (arith, h.depth_is))

pub units-t : (t a b : Decimal) (at bt tt : Aligned) (top n : ℕ) → Stand t a b at bt tt top n
    → positional (digit_of tt) n ≡ units top n (number_of t)
units-t t a b at bt tt top n h = units-is tt t top n h.t_zeros h.t_number (omega (arith, h.depth_is))

-- the same test in the units of all three
pub near-in : (t a b : Decimal) (at bt tt : Aligned) (top n : ℕ) (r : Bool) → Stand t a b at bt tt top n
    → r ≡ is_near_in top n (number_of t) (number_of a) (number_of b) → r ≡ is_near (number_of t) (number_of a) (number_of b)
near-in t a b at bt tt top n r h k =
    let d : r ≡ is_near_in top (depth_of top (number_of a) (number_of b) (number_of t)) (number_of t) (number_of a) (number_of b)
    = k ∙ ap (λ (m : ℕ). is_near_in top m (number_of t) (number_of a) (number_of b)) h.depth_is in
    d ∙ ap (λ (m : ℕ). is_near_in m (depth_of m (number_of a) (number_of b) (number_of t)) (number_of t) (number_of a) (number_of b)) h.top_is

pub near-same : (t a b : Decimal) (at bt tt : Aligned) (top n : ℕ) (r : Bool) → Stand t a b at bt tt top n
    → beq (number_of a).is_negative (number_of b).is_negative ≡ true
    → r ≡ nat_le (positional (digit_of at) n) (positional (digit_of bt) n + positional (digit_of tt) n)
    && nat_le (positional (digit_of bt) n) (positional (digit_of at) n + positional (digit_of tt) n)
    → r ≡ is_near (number_of t) (number_of a) (number_of b)
near-same t a b at bt tt top n r h signs is =
    let ua : positional (digit_of at) n ≡ units top n (number_of a) = units-a t a b at bt tt top n h in
    let ub : positional (digit_of bt) n ≡ units top n (number_of b) = units-b t a b at bt tt top n h in
    let ut : positional (digit_of tt) n ≡ units top n (number_of t) = units-t t a b at bt tt top n h in
    let w : r ≡ nat_le (abs_diff (positional (digit_of at) n) (positional (digit_of bt) n)) (positional (digit_of tt) n)
    = is ∙ within-is (positional (digit_of at) n) (positional (digit_of bt) n) (positional (digit_of tt) n) in
    let v = rw (ua, ub, ut) at w in
    let s = apart-same (number_of a).is_negative (number_of b).is_negative (units top n (number_of a)) (units top n (number_of b)) signs in
    near-in t a b at bt tt top n r h (v ∙ ap (λ (m : ℕ). nat_le m (units top n (number_of t))) (sym s))

pub near-other : (t a b : Decimal) (at bt tt : Aligned) (top n : ℕ) (r : Bool) → Stand t a b at bt tt top n
    → beq (number_of a).is_negative (number_of b).is_negative ≡ false
    → r ≡ nat_le (positional (digit_of at) n + positional (digit_of bt) n) (positional (digit_of tt) n)
    → r ≡ is_near (number_of t) (number_of a) (number_of b)
near-other t a b at bt tt top n r h signs w =
    let ua : positional (digit_of at) n ≡ units top n (number_of a) = units-a t a b at bt tt top n h in
    let ub : positional (digit_of bt) n ≡ units top n (number_of b) = units-b t a b at bt tt top n h in
    let ut : positional (digit_of tt) n ≡ units top n (number_of t) = units-t t a b at bt tt top n h in
    let v = rw (ua, ub, ut) at w in
    let s = apart-other (number_of a).is_negative (number_of b).is_negative (units top n (number_of a)) (units top n (number_of b)) signs in
    near-in t a b at bt tt top n r h (v ∙ ap (λ (m : ℕ). nat_le m (units top n (number_of t))) (sym s))
