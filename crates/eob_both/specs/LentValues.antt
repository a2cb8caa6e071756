-- What the walks over references to the one or two values of a value have still to give.
use Rattle.std.specs.Prelude.{List, map}
use Rattle.eob_both.specs.declared.iter.lent_values.IterEitherOrBoth.{IterEitherOrBoth}
use Rattle.eob_both.specs.declared.iter.lent_values.IterMutEitherOrBoth.{IterMutEitherOrBoth}
use Rattle.eob_both.specs.Values.{values_left}

-- the values behind the references that a walk has still to give
abbrev pub refs_left : {T : Type 0} → IterEitherOrBoth T → List T
refs_left s = map (λ x. x.now) (values_left s.values)

-- the same of references for writing
abbrev pub muts_left : {T : Type 0} → IterMutEitherOrBoth T → List T
muts_left s = map (λ x. x.now) (values_left s.values)
