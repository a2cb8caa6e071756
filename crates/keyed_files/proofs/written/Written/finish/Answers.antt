use Rattle.std.proofs.Common.{[], Some}
use Rattle.keyed_files.specs.Writing.{writer_of}
use Rattle.keyed_files.proofs.written.Written.finish.Goals as goal

pub returns-in-Ok : goal.returns-in-Ok
returns-in-Ok c form rows h = (rw c.in-Ok.is at c.finish.ensures) (writer_of form) (Some []) rows h
