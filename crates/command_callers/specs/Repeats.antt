-- What is told where a key stands twice.
use Rattle.std.specs.Prelude.{◌≡◌, ◌∷◌, [], ⊤, ℕ, List, codes}
use Rattle.keyed_faults.specs.declared.fault.Fault.{Fault}
use Rattle.keyed_faults.specs.declared.fault.Reason.{Reason}
use Rattle.keyed_faults.specs.declared.fault.Reason.TheVariants as reason

-- where it is told that a key stands twice, the key has the property
abbrev pub IfKeyRepeats : (List (List ℕ) → Type 0) → Reason → Type 0
IfKeyRepeats P (reason.RepeatedKey repeated) = P repeated.key
IfKeyRepeats P _ = ⊤

-- then it is this key, in the file of this name
abbrev pub RepeatsAlone : List ℕ → List ℕ → Fault → Type 0
RepeatsAlone file key fault = IfKeyRepeats (λ told. (fault.file.now ≡ file) × (told ≡ key ∷ [])) fault.reason
