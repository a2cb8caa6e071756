-- Changes that are taken back.
use Rattle.std.specs.Prelude.{List, map}
use Rattle.eob_both.specs.declared.either_or_both.EitherOrBoth.{EitherOrBoth}
use Rattle.eob_lists.specs.JoinLaws.{flipped}
use Rattle.keyed_requests.specs.declared.request.Direction.{Direction}
use Rattle.keyed_requests.specs.declared.request.Direction.TheVariants.{Backward, Forward}

-- changes by key, each turned about: what it brought goes, and what went comes
abbrev pub turned : {K V : Type 0} → List (K × EitherOrBoth V V) → List (K × EitherOrBoth V V)
turned changes = map (λ change. (change.0, flipped change.1)) changes

-- the changes as they are made in a direction
abbrev pub changes_in : {K V : Type 0} → Direction → List (K × EitherOrBoth V V) → List (K × EitherOrBoth V V)
changes_in Forward changes = changes
changes_in Backward changes = turned changes
