-- The items of a list, each with what a map has under its key.
use Rattle.std.specs.Prelude.{◌≡◌, List, Option, Some, None, map, option_copied, true}
use Rattle.std.specs.Borrow.{Bor}
use Rattle.std.specs.Iterator.{Count, IsFinite}
use Rattle.std.specs.Iterator.Runs.{Run, SomeRun, EachRunFrom}
use Rattle.eob_joins.specs.declared.lookup.LookupJoin.{LookupJoin}

-- a row, with what its reference points to
abbrev pub shown_lookup : {K A B : Type 0} → K × A × Option (Bor B) → K × A × Option B
shown_lookup r = (r.0, r.1, option_copied r.2)

-- a pair, with what the function has under its key
abbrev pub with_found : {K A B : Type 0} → (K → Option B) → K × A → K × A × Option B
with_found f x = (x.0, x.1, f x.0)

-- a call takes the next pair and looks its key up, and the map stays
abbrev pub lookup_steps : {I K A B M : Type 0} → (M → K → Option B) → (I → Option (K × A) → I → Type 0)
    → LookupJoin I M → Option (K × A × Option (Bor B)) → LookupJoin I M → Type 0
lookup_steps finds firsts s None t = firsts s.lefts None t.lefts × (t.right ≡ s.right)
lookup_steps finds firsts s (Some z) t = firsts s.lefts (Some (z.0, z.1)) t.lefts × (t.right ≡ s.right)
    × (option_copied z.2 ≡ finds s.right.now z.0)

-- p gave the items of a, each with what the function has under its key, and where it ended a had ended
abbrev pub IsLookupRun : {W S K A B : Type 0} {steps : W → Option (K × A × Option (Bor B)) → W → Type 0}
    {firsts : S → Option (K × A) → S → Type 0} → (K → Option B) → Run steps → Run firsts → Type 0
IsLookupRun found p a = (p.len ≡ a.len) × (p.whole ≡ true → a.whole ≡ true)
    × (map shown_lookup p.items ≡ map (with_found found) a.items)

-- z is the walk over what x was made into, beside the map m: it ends where that does, and after each run of it stands one of that
abbrev pub LooksUpRuns : {X I K A B M : Type 0} → (M → K → Option B) → (X → I → Type 0) → (I → Count)
    → (I → Option (K × A) → I → Type 0) → X → M → LookupJoin I M → Type 0
LooksUpRuns {I = I} finds gives left firsts x m z = (s : I) × gives x s × (z.lefts ≡ s)
    × (IsFinite (left s) → IsFinite (left z.lefts))
    × EachRunFrom (lookup_steps finds firsts) z (λ p. SomeRun firsts s (IsLookupRun (finds m) p))
