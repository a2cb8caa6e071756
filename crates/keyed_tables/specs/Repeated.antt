-- Keys under which more than one row stands.
use Rattle.std.specs.Prelude.{◌≡◌, ◌≤◌, ⊤, ℕ, List, ◌∷◌, filter, length, map}
use Rattle.std.specs.Ordering.{is_eq}
use Rattle.std.specs.declared.cmp.Ordering.{Ordering}
use Rattle.std.specs.declared.cmp.Ordering.TheVariants.{Less}
use Rattle.keyed_rows.specs.declared.row.UniqueError.{UniqueError}
use Rattle.keyed_rows.specs.declared.row.UniqueError.TheVariants.{NoMemory, RepeatedKey}

module _ {K X V : Type 0} (cmp : K → K → Ordering) (key : X → K) (value : X → V) where
  -- the values of the rows under a key, in their order
  abbrev pub values_under : List X → K → List V
  values_under rows k = map value (filter (λ row. is_eq (cmp k (key row))) rows)

  -- a and b are the values of the first two rows under k, and no row with a lesser key shares it with another
  pub record IsFirstRepeat (rows : List X) (k : K) (a b : V) : Type 0 where
    pub twice : (rest : List V) × (values_under rows k ≡ a ∷ b ∷ rest)
    pub least : (row : X) → cmp (key row) k ≡ Less → length (values_under rows (key row)) ≤ 1

-- where a fault names a key that stands twice, its key and both lines have the property
abbrev pub IfRepeated : (List (List ℕ) → ℕ → ℕ → Type 0) → UniqueError → Type 0
IfRepeated P NoMemory = ⊤
IfRepeated P (RepeatedKey repeated) = P repeated.key repeated.first repeated.second
