-- What is to blame where it is no header and no row.
use Rattle.std.specs.Prelude.{⊤}
use Rattle.keyed_rows.specs.declared.row.UniqueError.{UniqueError}
use Rattle.keyed_rows.specs.declared.row.UniqueError.TheVariants as unique
use Rattle.keyed_faults.specs.declared.fault.Reason.{Reason}
use Rattle.keyed_faults.specs.declared.fault.Reason.TheVariants as reason

-- memory, the file or its quotes are to blame
abbrev pub IsOutside : Reason → Type 0
IsOutside reason.NoMemory = ⊤
IsOutside (reason.Io error) = ⊤
IsOutside (reason.Quotes line fault) = ⊤
IsOutside _ = ⊥

-- neither the header nor the rows of a table are to blame
abbrev pub IsApart : Reason → Type 0
IsApart (reason.NoColumn line name there) = ⊥
IsApart (reason.RepeatedColumn line name) = ⊥
IsApart (reason.NamedTwice line name) = ⊥
IsApart (reason.CellCount line expected found) = ⊥
IsApart (reason.NoSign line) = ⊥
IsApart (reason.NotRising line) = ⊥
IsApart (reason.RepeatedKey repeated) = ⊥
IsApart (reason.RepeatedRight repeated) = ⊥
IsApart _ = ⊤

-- what is told where a key stands twice that may not, or memory is refused
abbrev pub reason_of : UniqueError → Reason
reason_of unique.NoMemory = reason.NoMemory
reason_of (unique.RepeatedKey repeated) = reason.RepeatedKey repeated
