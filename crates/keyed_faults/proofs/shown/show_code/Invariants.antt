use Rattle.std.proofs.Common.{◌≡◌, ◌≤◌, ◌++◌, encode_utf8_all}
use Rattle.std.specs.Char.Escape.{escape_unicode}
use Rattle.std.specs.Char.Iter.{escape_end, escape_rest}
use Rattle.std.specs.Fmt.{HasWritten, IsPlainFormatter}
use Rattle.keyed_faults.proofs.shown.show_code.Given as goal

abbrev pub invariant-loop-x : goal.invariant-loop-x
invariant-loop-x g l =
    (escape_end l.x-iterator ≤ 10) × (l.yielded ++ escape_rest l.x-iterator ≡ escape_unicode l.fn.c)
    × (IsPlainFormatter l.fn.f → HasWritten g.W.Write.write_str_gives l.fn.f (encode_utf8_all l.yielded) l.f)
