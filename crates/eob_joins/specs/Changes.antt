-- What changed between two versions of a table, and a table with changes made to it.
use Rattle.std.specs.Prelude.{◌≡◌, Bool, true, List, Option, Some, None, if◌then◌else◌}
use Rattle.std.specs.Option.{option_and_then, option_eq}
use Rattle.std.specs.declared.cmp.Ordering.{Ordering}
use Rattle.std.specs.declared.cmp.Ordering.TheVariants.{Equal}
use Rattle.eob_both.specs.declared.either_or_both.EitherOrBoth.{EitherOrBoth}
use Rattle.eob_both.specs.declared.either_or_both.EitherOrBoth.TheVariants.{Left, Both, Right}
use Rattle.eob_both.specs.Places.{from_places, right_place}
use Rattle.eob_lists.specs.Join.{Rising}
use Rattle.eob_joins.specs.Tables.{AlikeRows, IsKeptOfJoin}

-- the two values, unless they are equal
abbrev pub changed : {V : Type 0} → (V → V → Bool) → EitherOrBoth V V → Option (EitherOrBoth V V)
changed eq (Left o) = Some (Left o)
changed eq (Both o n) = if eq o n then None else Some (Both o n)
changed eq (Right n) = Some (Right n)

-- the new value of a change, and where there is no change the old one
abbrev pub applied : {V : Type 0} → EitherOrBoth V (EitherOrBoth V V) → Option V
applied (Left o) = Some o
applied (Both o c) = right_place c
applied (Right c) = right_place c

-- a change made to the value that it is from gives the value that it is to, where values that count as equal are equal
abbrev pub ChangedValueLaw : {V : Type 0} → (V → V → Bool) → Type 0
ChangedValueLaw {V} eq = ((v w : V) → eq v w ≡ true → v ≡ w) → (m n : Option V)
    → option_and_then applied (from_places m (option_and_then (changed eq) (from_places m n))) ≡ n

-- the same up to the equality of values: it gives a value that counts as equal to the one that it is to
abbrev pub ChangedAlikeLaw : {V : Type 0} → (V → V → Bool) → Type 0
ChangedAlikeLaw {V} eq = (m n : Option V)
    → option_eq eq (option_and_then applied (from_places m (option_and_then (changed eq) (from_places m n)))) n
    ≡ true

module _ {K : Type 0} (cmp : K → K → Ordering) where
  -- the changes from p to q, made to p, give q
  abbrev pub ApplyDiffLaw : {V : Type 0} → (V → V → Bool) → Type 0
  ApplyDiffLaw {V} eq = ((j k : K) → cmp j k ≡ Equal → j ≡ k) → ((v w : V) → eq v w ≡ true → v ≡ w)
      → (p q rs : List (K × V)) (ds : List (K × EitherOrBoth V V)) → Rising cmp p → Rising cmp q
      → IsKeptOfJoin cmp (changed eq) p q ds → IsKeptOfJoin cmp applied p ds rs → rs ≡ q

  -- where rs is p with the changes from p to q made to it, its keys and its values count as equal to those of q, pair by pair
  abbrev pub PatchedLaw : {V : Type 0} → (V → V → Bool) → Type 0
  PatchedLaw {V} eq = (p q rs : List (K × V)) (ds : List (K × EitherOrBoth V V)) → Rising cmp p → Rising cmp q
      → IsKeptOfJoin cmp (changed eq) p q ds → IsKeptOfJoin cmp applied p ds rs
      → AlikeRows cmp eq rs q
