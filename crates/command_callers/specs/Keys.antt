-- What is told where a column lacks.
use Rattle.std.specs.Prelude.{◌≡◌, ℕ, List, ⊤}
use Rattle.keyed_faults.specs.declared.fault.Reason.{Reason}
use Rattle.keyed_faults.specs.declared.fault.Reason.TheVariants as reason

-- the column of this name is to blame, unless memory was refused
abbrev pub NamesColumn : List ℕ → Reason → Type 0
NamesColumn name (reason.NoColumn line told there) = told.items ≡ name
NamesColumn name (reason.RepeatedColumn line told) = told.items ≡ name
NamesColumn name reason.NoMemory = ⊤
NamesColumn name _ = ⊥
