use Rattle.std.proofs.Common.{◌++◌}
use Rattle.keyed_commands.specs.Requested.{AreStreamsOf}
use Rattle.keyed_commands.proofs.files.streams_of.Given as goal

abbrev pub invariant-loop-named : goal.invariant-loop-named
invariant-loop-named g l =
    (more : _) → AreStreamsOf l.named-iterator.rest.items more
    → AreStreamsOf l.fn.files.items (l.streams.items ++ more)
