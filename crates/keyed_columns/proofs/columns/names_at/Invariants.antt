use Rattle.std.proofs.Common.{◌≡◌, ◌++◌, map}
use Rattle.keyed_columns.specs.Keys.{name_by}
use Rattle.keyed_columns.proofs.columns.names_at.Given as goal

abbrev pub invariant-loop-name : goal.invariant-loop-name
invariant-loop-name l = l.names.names ++ map (name_by l.places.first l.places.others) l.name-iterator ≡ map (name_by l.places.first l.places.others) l.given
