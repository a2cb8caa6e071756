-- What the walks over the one value of an `Either` whose sides have one type have still to give: that value, or nothing.
use Rattle.std.specs.Prelude.{List, [], map, Option, Some, None}
use Rattle.eob_both.specs.declared.iter.values.IntoIterEitherOrBoth.{IntoIterEitherOrBoth}
use Rattle.eob_both.specs.Values.{values_left}
use Rattle.either_or_both.specs.declared.iter_either.values.IntoIterEither.{IntoIterEither}
use Rattle.either_or_both.specs.declared.iter_either.values.IterEither.{IterEither}
use Rattle.either_or_both.specs.declared.iter_either.values.IterMutEither.{IterMutEither}

-- by value
abbrev pub value_left : {T : Type 0} → IntoIterEither T → List T
value_left s = values_left s.values

-- the references of a walk that borrows, of which a default one holds none
abbrev pub lent_left : {T : Type 0} → Option (IntoIterEitherOrBoth T) → List T
lent_left None = []
lent_left (Some s) = values_left s

-- the value behind a reference
abbrev pub ref_left : {T : Type 0} → IterEither T → List T
ref_left s = map (λ x. x.now) (lent_left s.values)

-- the value behind a reference for writing
abbrev pub mut_left : {T : Type 0} → IterMutEither T → List T
mut_left s = map (λ x. x.now) (lent_left s.values)
