use Rattle.std.proofs.Common.{take}
use Rattle.keyed_columns.specs.KeyText.{HasNames}
use Rattle.keyed_columns.proofs.key_record.names_of_cell.Given as goal

abbrev pub invariant-loop-byte : goal.invariant-loop-byte
invariant-loop-byte l = HasNames (take l.byte-index l.cell) l.names
