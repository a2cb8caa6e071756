use Rattle.std.proofs.Common.{◌≡◌, ◌++◌, string_bytes, replicate}
use Rattle.keyed_layout.proofs.lined_up.put_spaces.Given as goal

abbrev pub invariant-loop : goal.invariant-loop
invariant-loop l = string_bytes l.text ≡ string_bytes l.fn.text ++ replicate l.counter 32
