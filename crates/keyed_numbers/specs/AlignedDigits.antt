-- The digits of numbers that stand under one another, and of their sums.
use Rattle.std.specs.Prelude.{ℕ, ◌+◌, Option, Some, None}
use Rattle.keyed_numbers.specs.Digits.{digit_at}
use Rattle.keyed_numbers.specs.Numbers.{Number}
use Rattle.keyed_numbers.specs.Decimals.{number_of}
use Rattle.keyed_numbers.specs.declared.aligned.Aligned.{Aligned}
use Rattle.keyed_numbers.specs.declared.aligned.Sum.{Sum}

abbrev pub digit_of : Aligned → ℕ → ℕ
digit_of aligned step = digit_at aligned.zeros (number_of aligned.number).digits step

abbrev pub digit_of_next : Option Aligned → ℕ → ℕ
digit_of_next None step = 0
digit_of_next (Some aligned) step = digit_of aligned step

-- both digits at a step
abbrev pub digit_of_sum : Sum → ℕ → ℕ
digit_of_sum sum step = digit_of sum.first step + digit_of_next sum.next step
