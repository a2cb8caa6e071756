-- What recipes say of the values of a row.
use Rattle.std.specs.Prelude.{◌-◌, if◌then◌else◌}
use Rattle.either_or_both.specs.Prelude.{ℕ, Bool, true, false, not, nat_lt, Option, Some, None, left_place, right_place, unwrap_or}
use Rattle.either_or_both.specs.declared.EitherOrBoth.{EitherOrBoth}
use Rattle.either_or_both.specs.declared.EitherOrBoth.TheVariants.{Left, Both, Right}

module _ {V : Type 0} (eq : V → V → Bool) where
  -- the key is there before and after, with equal values
  abbrev pub stays : EitherOrBoth V V → Bool
  stays (Left old) = false
  stays (Both old new) = eq old new
  stays (Right new) = false

  -- the key is there before and after, with unequal values
  abbrev pub changes : EitherOrBoth V V → Bool
  changes (Left old) = false
  changes (Both old new) = not (eq old new)
  changes (Right new) = false

-- both values, with a filler for the one that is absent
abbrev pub filled : {T : Type 0} → T → EitherOrBoth T T → T × T
filled f v = (unwrap_or (left_place v) f, unwrap_or (right_place v) f)

-- what was ordered less what was delivered, where that is more than nothing
abbrev pub due : EitherOrBoth ℕ ℕ → Option ℕ
due (Left ordered) = Some ordered
due (Both ordered delivered) = if nat_lt delivered ordered then Some (ordered - delivered) else None
due (Right delivered) = None
