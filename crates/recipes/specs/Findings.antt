-- What a report says of a file.
use Rattle.std.specs.Prelude.{if◌then◌else◌}
use Rattle.either_or_both.specs.Prelude.{Bool, Option, Some, None}
use Rattle.either_or_both.specs.declared.EitherOrBoth.{EitherOrBoth}
use Rattle.either_or_both.specs.declared.EitherOrBoth.TheVariants.{Left, Both, Right}
use Rattle.recipes.specs.declared.files.Finding.{Finding}
use Rattle.recipes.specs.declared.files.Finding.TheVariants.{Gone, Differs, Came}

-- what became of a file: nothing where both folders have it with equal contents
abbrev pub finding : {V : Type 0} → (V → V → Bool) → EitherOrBoth V V → Option Finding
finding eq (Left old) = Some Gone
finding eq (Both old new) = if eq old new then None else Some Differs
finding eq (Right new) = Some Came
