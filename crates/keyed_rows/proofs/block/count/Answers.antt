use Rattle.std.proofs.Common.{length, ap, arith}
use Rattle.keyed_rows.proofs.Facts.{cells_few}
use Rattle.keyed_rows.proofs.block.count.Goals as goal

pub overflow_add-count : goal.overflow_add-count
overflow_add-count c =
    omega (arith, cells_few c.args.block.now, c.loop-rest.invariant.all, ap length c.split_first.ensures.cells, c.requires.fits)
