use Rattle.std.proofs.Common.{◌≡◌, ◌-◌, [], drop, false, take}
use Rattle.std.specs.List.{flat_map}
use Rattle.csv.specs.Records.{fields_of}
use Rattle.keyed_columns.specs.Going.{coming_behind, going_behind}
use Rattle.keyed_columns.specs.Headers.{names_behind}
use Rattle.keyed_columns.specs.Names.{names_in, repeats}
use Rattle.keyed_columns.proofs.header.Header.of_record.Given as goal

abbrev pub invariant-loop-place : goal.invariant-loop-place
invariant-loop-place l =
    let names = names_behind l.before (fields_of l.row) in
    (repeats [] names ≡ false
    → (names_in l.told.found ≡ take (l.place - l.before) names) × (repeats (take (l.place - l.before) names) (drop (l.place - l.before) names) ≡ false))
    × (l.told.gone ≡ flat_map (going_behind l.before) (take (l.place - l.before) (drop l.before (fields_of l.row))))
    × (l.told.came ≡ flat_map (coming_behind l.before) (take (l.place - l.before) (drop l.before (fields_of l.row))))
