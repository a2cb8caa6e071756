use Rattle.std.proofs.Common.{◌≡◌}
use Rattle.keyed_columns.specs.Headers.{numbered_names}
use Rattle.keyed_columns.specs.Names.{names_in}
use Rattle.keyed_columns.proofs.header.Header.numbers.Given as goal

abbrev pub invariant-loop-number : goal.invariant-loop-number
invariant-loop-number l = names_in l.told.found ≡ numbered_names l.number
