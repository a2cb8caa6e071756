use Rattle.std.proofs.Common.{map}
use Rattle.keyed_files.specs.declared.written.Written.{Written}
use Rattle.keyed_files.specs.Writing.{PutsCells}
use Rattle.keyed_cut.specs.Listing.{from_name}
use Rattle.keyed_cut.proofs.listing.put_from_names.Given as goal

abbrev pub invariant-loop-name : goal.invariant-loop-name
invariant-loop-name l = (end : Written) → PutsCells l.rows end (map from_name l.name-iterator) → PutsCells l.fn.rows end (map from_name l.key)
