use Rattle.std.proofs.Common.{◌≡◌, ◌++◌}
use Rattle.keyed_cut.specs.Listing.{from_names}
use Rattle.keyed_cut.proofs.listing.key_columns.Given as goal

abbrev pub invariant-loop-name : goal.invariant-loop-name
invariant-loop-name l = l.names ++ from_names l.name-iterator ≡ from_names l.header
