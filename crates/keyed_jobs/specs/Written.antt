-- What stands on an output where writing ends with an error.
use Rattle.std.specs.Prelude.{◌≡◌, ◌⊎◌, ℕ, List, ◌++◌, Option, codes, ⊤}
use Rattle.std.specs.Io.KnownBytes.{Appends, Keeps}
use Rattle.keyed_faults.specs.declared.fault.Fault.{Fault}
use Rattle.keyed_faults.specs.declared.fault.Reason.{Reason}
use Rattle.keyed_faults.specs.declared.fault.Reason.TheVariants as reason

-- the name of the standard output in faults
abbrev pub output_name : List ℕ
output_name = codes "the standard output"

-- a stream can't be opened, read or written
abbrev pub IsIo : Reason → Type 0
IsIo (reason.Io error) = ⊤
IsIo _ = ⊥

-- the standard output is not written
abbrev pub IsOfOutput : Fault → Type 0
IsOfOutput fault = (fault.file.now ≡ output_name) × IsIo fault.reason

-- a beginning of bytes is put after what was written
abbrev pub PutsSome : Option (List ℕ) → Option (List ℕ) → List ℕ → Type 0
PutsSome before after bytes = (put : List ℕ) × (more : List ℕ) × (bytes ≡ put ++ more) × Appends before after put

-- where writing ends with a fault of this file: nothing is put after what was written, or a beginning of such a text, which is all of it unless
-- the fault is one of the output
abbrev pub PutsBeginning : (List ℕ → Type 0) → List ℕ → Option (List ℕ) → Option (List ℕ) → Type 0
PutsBeginning IsText file before after = Keeps before after ⊎ ((text : List ℕ) × IsText text × PutsSome before after text
    × ((file ≡ output_name → ⊥) → Appends before after text))
