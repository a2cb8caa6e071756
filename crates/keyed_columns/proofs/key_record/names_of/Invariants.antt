use Rattle.std.proofs.Common.{take}
use Rattle.csv.specs.Records.{fields_of}
use Rattle.keyed_columns.specs.KeyText.{GiveNames}
use Rattle.keyed_columns.specs.NewColumns.{HasOnce}
use Rattle.keyed_columns.proofs.key_record.names_of.Given as goal

abbrev pub invariant-loop-place : goal.invariant-loop-place
invariant-loop-place l = record {
  first : HasOnce l.first;
  others : HasOnce l.others;
  given : GiveNames (take l.place (fields_of l.row)) l.first.names l.others.names;
}
