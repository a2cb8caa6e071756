use Rattle.std.proofs.Common.{◌≡◌, ◌++◌, map}
use Rattle.keyed_columns.specs.Headers.{place_under}
use Rattle.keyed_files.proofs.source.find_places.Given as goal

abbrev pub invariant-loop-name : goal.invariant-loop-name
invariant-loop-name l =
    l.places.items ++ map (place_under l.content l.header.names) l.name-iterator ≡ map (place_under l.content l.header.names) l.names
