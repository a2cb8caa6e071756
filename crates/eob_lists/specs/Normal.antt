-- The normal form of a list of values, and what regrouping makes of a list.
use Rattle.std.specs.Prelude.{◌≡◌, ℕ, ◌≤◌, ◌⊎◌, Bool, true, false, List, length, take, drop, All}
use Rattle.eob_both.specs.declared.either_or_both.EitherOrBoth.{EitherOrBoth}
use Rattle.eob_both.specs.declared.either_or_both.EitherOrBoth.TheVariants.{Left, Both, Right}
use Rattle.eob_both.specs.Sides.{lefts, rights}
use Rattle.eob_both.specs.Aligned.{aligned}

module _ {L R : Type 0} where
  -- which variant a value is
  abbrev pub is_left : EitherOrBoth L R → Bool
  is_left (Left l) = true
  is_left (Both l r) = false
  is_left (Right r) = false

  abbrev pub is_both : EitherOrBoth L R → Bool
  is_both (Left l) = false
  is_both (Both l r) = true
  is_both (Right r) = false

  abbrev pub is_right : EitherOrBoth L R → Bool
  is_right (Left l) = false
  is_right (Both l r) = false
  is_right (Right r) = true

  -- each value is a left value alone, or each is a right value alone
  abbrev pub IsOneSided : List (EitherOrBoth L R) → Type 0
  IsOneSided xs = All (λ x. is_left x ≡ true) xs ⊎ All (λ x. is_right x ≡ true) xs

  -- the values before some place are both, and those from it on are one side alone
  abbrev pub IsNormal : List (EitherOrBoth L R) → Type 0
  IsNormal xs = (m : ℕ) × (m ≤ length xs) × All (λ x. is_both x ≡ true) (take m xs) × IsOneSided (drop m xs)

  -- the two sides of a list, lined up again
  abbrev pub regrouped : List (EitherOrBoth L R) → List (EitherOrBoth L R)
  regrouped xs = aligned (lefts xs) (rights xs)
