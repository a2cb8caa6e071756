use Rattle.std.proofs.Common.{◌≡◌, false, get_or, arith}
use Rattle.std.specs.Prelude.{nat_lt}
use Rattle.std.proofs.lemmas.Bool.Decides.{nat_tests}
use Rattle.keyed_rows.specs.Layout.{first_len}
use Rattle.keyed_rows.proofs.block.long_length.Goals as goal

pub returns : goal.returns
unfolding first_len
returns c =
    let e : nat_lt (get_or c.args.block.now 0 0) 255 ≡ false = grind (arith, nat_tests) in
    rw e c.from_le_bytes.ensures
