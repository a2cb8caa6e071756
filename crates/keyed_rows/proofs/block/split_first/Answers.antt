use Rattle.std.proofs.Common.{arith, sym}
use Rattle.keyed_rows.proofs.Facts.{splits_off, head_len-long, head_len-short, first_len-short}
use Rattle.keyed_rows.proofs.block.split_first.Goals as goal

pub long_length-requires-clause-room : goal.long_length-requires-clause-room
long_length-requires-clause-room c =
    let k = splits_off c.args.block.now c.requires.is_block c.requires.some in
    omega (arith, k.room, head_len-long c.args.block.now c.if-count-lt255.false)

pub cut-requires-clause-head : goal.cut-requires-clause-head
cut-requires-clause-head c = sym (head_len-short c.args.block.now c.if-count-lt255.true)

pub cut-requires-clause-count : goal.cut-requires-clause-count
cut-requires-clause-count c = sym (first_len-short c.args.block.now c.if-count-lt255.true)

pub cut-requires-else-count-lt255-clause-head : goal.cut-requires-else-count-lt255-clause-head
cut-requires-else-count-lt255-clause-head c = sym (head_len-long c.args.block.now c.if-count-lt255.false)
