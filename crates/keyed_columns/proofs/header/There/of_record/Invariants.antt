use Rattle.std.proofs.Common.{◌-◌, take}
use Rattle.csv.specs.Records.{fields_of}
use Rattle.keyed_columns.specs.Headers.{names_behind}
use Rattle.keyed_columns.specs.KeyColumns.{TellsNames}
use Rattle.keyed_columns.proofs.header.There.of_record.Given as goal

abbrev pub invariant-loop-place : goal.invariant-loop-place
invariant-loop-place l = TellsNames (take (l.place - l.before) (names_behind l.before (fields_of l.row))) l.there
