-- Counts and sums, where they fit, of numbers and of what a list has under a key.
use Rattle.std.specs.Prelude.{◌≡◌, ℕ, ◌+◌, ◌^◌, List, length, map, Option, Some, None, if◌then◌else◌, nat_lt, option_map, sum}
use Rattle.std.specs.Option.{option_and_then}
use Rattle.std.specs.declared.cmp.Ordering.{Ordering}
use Rattle.std.specs.declared.cmp.Ordering.TheVariants.{Equal}
use Rattle.eob_lists.specs.Join.{value_under}
use Rattle.eob_joins.specs.Groups.{group_under}
use Rattle.eob_sums.specs.declared.by_key.Total.{Total}

-- a number, where it is less than 2 ^ 64
abbrev pub fitting : ℕ → Option ℕ
fitting n = if nat_lt n (2 ^ 64) then Some n else None

-- how many numbers there are, and their sum, where it fits
abbrev pub total_of : List ℕ → Total
total_of ns = record { count = length ns; sum = fitting (sum ns) }

-- one more than a count, which is absent where nothing was counted
abbrev pub one_more : Option ℕ → ℕ
one_more None = 1
one_more (Some n) = n + 1

-- a total with a number more, which is absent where there was none
abbrev pub with_more : Option Total → ℕ → Total
with_more None n = record { count = 1; sum = fitting n }
with_more (Some t) n = record { count = t.count + 1; sum = option_and_then (λ s. fitting (s + n)) t.sum }

module _ {K : Type 0} (cmp : K → K → Ordering) where
  -- keys that compare as equal are equal, as numbers are and texts are not
  pub record AreExact : Type 0 where
    pub same : (j k : K) → cmp j k ≡ Equal → j ≡ k

  -- how many numbers a list has under a key, and their sum, where it fits; nothing where it has none
  abbrev pub total_under : List (K × ℕ) → K → Option Total
  total_under xs k = option_map total_of (group_under cmp xs k)

  -- each pair of p with what q has under its key
  abbrev pub with_rights : {A B : Type 0} → List (K × B) → List (K × A) → List (K × (A × Option B))
  with_rights q p = map (λ x. (x.0, (x.1, value_under cmp q x.0))) p
