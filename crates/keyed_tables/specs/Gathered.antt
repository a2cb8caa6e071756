-- What a table has that was gathered from rows.
use Rattle.std.specs.Prelude.{All, List, [], ◌∷◌, map}
use Rattle.std.specs.List.Sorted.{IsPermutation, IsSorted}
use Rattle.std.specs.declared.cmp.Ordering.{Ordering}
use Rattle.eob_lists.specs.Join.{Rising}
use Rattle.eob_joins.specs.Groups.{AreGroups}

-- gs are the groups by key of the rows ps, put into some order: each row is there once, under its key, and nothing else is
abbrev pub HoldsRows : {K V : Type 0} → (K → K → Ordering) → List (K × V) → List (K × List V) → Type 0
HoldsRows {K} {V} cmp ps gs = (sorted : List (K × V)) × IsPermutation ps sorted × AreGroups cmp sorted gs

-- the values of each group stand in order
pub record AreInOrder {K V : Type 0} (cmp : V → V → Ordering) (gs : List (K × List V)) : Type 0 where
  pub values : All (λ g. IsSorted cmp g.1) gs

-- a row as a group of its own
abbrev pub alone : {K V : Type 0} → K × V → K × List V
alone row = (row.0, row.1 ∷ [])

-- rows whose keys strictly increase, each as a group of its own, are their groups by key
abbrev pub AloneLaw : {K : Type 0} → (K → K → Ordering) → Type 0 → Type 0
AloneLaw {K} cmp V = (rows : List (K × V)) → Rising cmp (map alone rows) → AreGroups cmp rows (map alone rows)
