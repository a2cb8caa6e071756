-- Keys parted by boundaries, and the rows of a part.
use Rattle.std.specs.Prelude.{◌≡◌, ◌==◌, ℕ, ◌<◌, List, ◌++◌, All, count_by, filter}
use Rattle.std.specs.Map.{keys_of}
use Rattle.std.specs.Ordering.{is_le}
use Rattle.std.specs.declared.cmp.Ordering.{Ordering}
use Rattle.std.specs.declared.cmp.Ordering.TheVariants.{Less}

module _ {K : Type 0} (cmp : K → K → Ordering) where
  -- the part of a key: how many boundaries are not above it
  abbrev pub part_in : List K → K → ℕ
  part_in bounds key = count_by (λ bound. is_le (cmp bound key)) bounds

  -- the rows of a part, in their order
  abbrev pub rows_in : {V : Type 0} → List K → ℕ → List (K × V) → List (K × V)
  rows_in bounds i rows = filter (λ row. part_in bounds row.0 == i) rows

  -- a key of a lesser part is less
  abbrev pub PartOrderLaw : Type 0
  PartOrderLaw = (bounds : List K) (j k : K) → part_in bounds j < part_in bounds k → cmp j k ≡ Less

  -- each key of a part of any rows is less than each key of a later part of any rows
  abbrev pub PartsBelowLaw : Type 0 → Type 0 → Type 0
  PartsBelowLaw V W = (bounds : List K) (rows : List (K × V)) (others : List (K × W)) (i j : ℕ) → i < j
      → All (λ k. All (λ l. cmp k l ≡ Less) (keys_of (rows_in bounds j others))) (keys_of (rows_in bounds i rows))

  -- what is partitioned in turn is partitioned
  abbrev pub PartitionedInTurnLaw : Type 0 → Type 0
  PartitionedInTurnLaw V = (bounds : List K) (i : ℕ) (rows more : List (K × V))
      → rows_in bounds i (rows ++ more) ≡ rows_in bounds i rows ++ rows_in bounds i more
