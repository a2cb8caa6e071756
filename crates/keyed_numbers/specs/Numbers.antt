-- What text is a number, its value, and which numbers are near to one another.
use Rattle.std.specs.Prelude.{◌≡◌, ℕ, ◌+◌, ◌-◌, ◌*◌, ◌^◌, Bool, true, false, cond, not, ◌&&◌, ◌||◌, ◌==◌, nat_lt, nat_le, max, List, [], ◌∷◌, ◌++◌, length, Option, Some, None}
use Rattle.std.specs.Int.{abs_diff}
use Rattle.std.specs.List.{list_all, position_or_len, before_first, after_first}
use Rattle.std.specs.Char.{is_ascii_digit}
use Rattle.keyed_numbers.specs.Digits.{digits_value}

-- A number: whether a minus stands before it, its digits, and the place above that of the first one. That place is counted from 9,999 places
-- below the point, where it is never below 0. So the number is its digits' value times 10 to the power top - 9,999 - length digits.
pub record Number : Type 0 where
  pub is_negative : Bool
  pub digits : List ℕ
  pub top : ℕ

-- what stands after a sign, or all where there is none
abbrev pub unsigned : List ℕ → List ℕ
unsigned [] = []
unsigned (byte ∷ rest) = cond (byte == 45 || byte == 43) rest (byte ∷ rest)

-- whether a minus stands before the others
abbrev pub has_minus : List ℕ → Bool
has_minus [] = false
has_minus (byte ∷ rest) = byte == 45

-- one of two bytes
abbrev pub is_either : ℕ → ℕ → ℕ → Bool
is_either mark other byte = byte == mark || byte == other

-- what stands after the first of the bytes that pass, if there is one
abbrev pub behind_first : (ℕ → Bool) → List ℕ → Option (List ℕ)
behind_first p bytes = cond (nat_lt (position_or_len p bytes) (length bytes)) (Some (after_first p bytes)) None

abbrev pub are_digits : List ℕ → Bool
are_digits bytes = list_all is_ascii_digit bytes

-- whether digits are all 0
abbrev pub are_zeros : List ℕ → Bool
are_zeros digits = list_all (λ digit. digit == 48) digits

-- whether a number is less than 0: a minus stands before it, and some digit is not 0
abbrev pub is_below_zero : Number → Bool
is_below_zero number = number.is_negative && not (are_zeros number.digits)

-- the power of ten that a text is, counted from -9,999: a sign or none, and one to four digits
abbrev pub power_in : List ℕ → Option ℕ
power_in bytes = cond (are_digits (unsigned bytes) && nat_lt 0 (length (unsigned bytes)) && nat_lt (length (unsigned bytes)) 5)
    (Some (cond (has_minus bytes) (9999 - digits_value (unsigned bytes)) (9999 + digits_value (unsigned bytes)))) None

-- the same where there may be none, which is 10 to the power 0
abbrev pub power_of : Option (List ℕ) → Option ℕ
power_of None = Some 9999
power_of (Some bytes) = power_in bytes

-- what an optional list has
abbrev pub or_none : Option (List ℕ) → List ℕ
or_none None = []
or_none (Some bytes) = bytes

-- a number of these digits before the point and after it, if there is one digit at least, and all are digits
abbrev pub number_of_parts : Bool → List ℕ → List ℕ → ℕ → Option Number
number_of_parts is_negative whole fraction power =
    cond (are_digits whole && are_digits fraction && nat_lt 0 (length whole + length fraction))
    (Some (record { is_negative = is_negative; digits = whole ++ fraction; top = power + length whole })) None

-- the same with a power of ten, if that is one
abbrev pub number_with_power : ℕ → Bool → List ℕ → Option ℕ → Option Number
number_with_power point is_negative digits None = None
number_with_power point is_negative digits (Some power) = number_of_parts is_negative
    (before_first (is_either point point) digits) (or_none (behind_first (is_either point point) digits)) power

-- The number that a text is, if it is one: a sign or none, digits with a point or without, and an e or E with a power of ten or neither. The
-- byte that is the point is given.
abbrev pub number_by : ℕ → List ℕ → Option Number
number_by point bytes = number_with_power point (has_minus bytes) (before_first (is_either 101 69) (unsigned bytes))
    (power_of (behind_first (is_either 101 69) (unsigned bytes)))

-- the same with a full stop for the point
abbrev pub number_in : List ℕ → Option Number
number_in bytes = number_by 46 bytes

-- How many units a number has without its sign, of which one is at the n-th place below this top. It is a whole number where the last digit
-- stands no deeper.
abbrev pub units : ℕ → ℕ → Number → ℕ
units top n number = digits_value number.digits * 10 ^ (n - ((top - number.top) + length number.digits))

-- how many units are between two numbers with these signs, so many from 0 each
abbrev pub apart : Bool → Bool → ℕ → ℕ → ℕ
apart true true a b = abs_diff a b
apart true false a b = a + b
apart false true a b = a + b
apart false false a b = abs_diff a b

-- the place above all digits of three numbers
abbrev pub top_of : Number → Number → Number → ℕ
top_of a b c = max (max a.top b.top) c.top

-- how many places below a top the last digit of a number is
abbrev pub depth : ℕ → Number → ℕ
depth top number = (top - number.top) + length number.digits

-- how many places below it the last digit of any of three is
abbrev pub depth_of : ℕ → Number → Number → Number → ℕ
depth_of top a b c = max (max (depth top a) (depth top b)) (depth top c)

-- no more than a tolerance is between two numbers, in units in which all three are whole
abbrev pub is_near_in : ℕ → ℕ → Number → Number → Number → Bool
is_near_in top n tolerance a b = nat_le (apart a.is_negative b.is_negative (units top n a) (units top n b)) (units top n tolerance)

abbrev pub is_near : Number → Number → Number → Bool
is_near tolerance a b = is_near_in (top_of a b tolerance) (depth_of (top_of a b tolerance) a b tolerance) tolerance a b

-- two texts are numbers, and near to one another
abbrev pub are_near : Number → Option Number → Option Number → Bool
are_near tolerance None b = false
are_near tolerance (Some a) None = false
are_near tolerance (Some a) (Some b) = is_near tolerance a b
