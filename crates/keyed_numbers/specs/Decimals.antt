-- What number a `Decimal` is.
use Rattle.std.specs.Prelude.{ℕ, ◌+◌, Bool, false, ◌||◌, List, ◌++◌, length, Option, Some, None}
use Rattle.keyed_numbers.specs.Cells.{same_text, seen, trimmed}
use Rattle.keyed_numbers.specs.Numbers.{Number, are_near, number_by}
use Rattle.keyed_numbers.specs.declared.alike.DecimalMark.{DecimalMark}
use Rattle.keyed_numbers.specs.declared.alike.DecimalMark.TheVariants.{Point, Comma}
use Rattle.keyed_numbers.specs.declared.alike.Alike.{Alike}
use Rattle.keyed_numbers.specs.declared.decimal.Decimal.{Decimal}

abbrev pub number_of : Decimal → Number
number_of decimal = record {
  is_negative = decimal.is_negative;
  digits = decimal.whole.now ++ decimal.fraction.now;
  top = decimal.power + length decimal.whole.now;
}

-- the byte between the whole part of a number and its fraction
abbrev pub mark_byte : DecimalMark → ℕ
mark_byte Point = 46
mark_byte Comma = 44

-- two cells are the same by value, where a tolerance is given
abbrev pub are_same_by_value : DecimalMark → Option Decimal → List ℕ → List ℕ → Bool
are_same_by_value mark None cell other = false
are_same_by_value mark (Some tolerance) cell other = are_near (number_of tolerance) (number_by (mark_byte mark) (trimmed cell))
    (number_by (mark_byte mark) (trimmed other))

-- two cells are the same: as texts, or by value
abbrev pub same_cell : Alike → List ℕ → List ℕ → Bool
same_cell alike cell other = same_text alike.folds_case (seen alike.trims cell) (seen alike.trims other)
    || are_same_by_value alike.mark alike.tolerance cell other
