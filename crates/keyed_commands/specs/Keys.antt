-- A key beside another that may be absent.
use Rattle.std.specs.Prelude.{◌≡◌, Option, IfSome}
use Rattle.std.specs.declared.cmp.Ordering.{Ordering}
use Rattle.std.specs.declared.cmp.Ordering.TheVariants.{Greater}

-- a key is not greater than another, if there is one
abbrev pub IsAtMost : {K : Type 0} → (K → K → Ordering) → K → Option K → Type 0
IsAtMost cmp key other = IfSome other (λ k. cmp key k ≡ Greater → ⊥)
