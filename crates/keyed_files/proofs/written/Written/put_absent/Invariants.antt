use Rattle.std.proofs.Common.{[], map}
use Rattle.keyed_files.specs.declared.written.Written.{Written}
use Rattle.keyed_files.specs.Writing.{PutsCells}
use Rattle.keyed_files.proofs.written.Written.put_absent.Given as goal

abbrev pub invariant-loop-name : goal.invariant-loop-name
invariant-loop-name l = (end : Written) → PutsCells l.self end (map (λ name. []) l._name-iterator) → PutsCells l.fn.self end (map (λ name. []) l.names)
