-- The hint of two iterators, from the hints of each: a lower bound on the items left, and an upper one where there is one.
use Rattle.std.specs.Prelude.{ℕ, ◌+◌, ◌-◌, ◌^◌, max, min, if◌then◌else◌, nat_lt, Option, Some, None}

-- the number, where it fits in a usize
abbrev pub that_fits : ℕ → Option ℕ
that_fits n = if nat_lt n (2 ^ 64) then Some n else None

-- walked side by side: the greater lower bound, and the greater upper bound where both have one
abbrev pub hint_max : ℕ × Option ℕ → ℕ × Option ℕ → ℕ × Option ℕ
hint_max (a, None) (b, n) = (max a b, None)
hint_max (a, Some m) (b, None) = (max a b, None)
hint_max (a, Some m) (b, Some n) = (max a b, Some (max m n))

-- walked in turn: the sum of the lower bounds, at most the greatest usize, and the sum of the upper bounds where both exist and it
-- fits in a usize
abbrev pub hint_sum : ℕ × Option ℕ → ℕ × Option ℕ → ℕ × Option ℕ
hint_sum (a, None) (b, n) = (min (a + b) (2 ^ 64 - 1), None)
hint_sum (a, Some m) (b, None) = (min (a + b) (2 ^ 64 - 1), None)
hint_sum (a, Some m) (b, Some n) = (min (a + b) (2 ^ 64 - 1), that_fits (m + n))
