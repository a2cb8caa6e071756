-- What is told where a file can't be opened.
use Rattle.std.specs.Prelude.{◌≡◌, ℕ, List}
use Rattle.keyed_faults.specs.Outside.{IsApart}
use Rattle.keyed_faults.specs.declared.fault.Fault.{Fault}
use Rattle.keyed_faults.specs.declared.fault.Reason.{Reason}

-- a fault is of the file of this name, and this is why
abbrev pub IsToldOf : List ℕ → Reason → Fault → Type 0
IsToldOf file why fault = (fault.file.now ≡ file) × (fault.reason ≡ why)

-- it is of the file of this name, of which neither the header nor a row is to blame
abbrev pub IsApartIn : List ℕ → Fault → Type 0
IsApartIn file fault = (fault.file.now ≡ file) × IsApart fault.reason
