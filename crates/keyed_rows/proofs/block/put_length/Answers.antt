use Rattle.std.proofs.Common.{◌≡◌}
use Rattle.std.specs.Int.{w64, to_le_bytes}
use Rattle.keyed_rows.proofs.Facts.{length_code_long, put_twice}
use Rattle.keyed_rows.proofs.block.put_length.Goals as goal

pub returns-in_ok-extend_from_slice-clause-put : goal.returns-in_ok-extend_from_slice-clause-put
returns-in_ok-extend_from_slice-clause-put c =
    let bytes : c.to_le_bytes.result ≡ to_le_bytes w64 c.args.count = c.to_le_bytes.ensures in
    put_twice _ _ _ c.in_ok-push-2.ensures.items (rw bytes at c.in_ok-extend_from_slice.ensures.items) (length_code_long c.args.count c.if-count-lt255.false)
