use Rattle.keyed_rows.proofs.Facts.{cell_code_is, put_twice}
use Rattle.keyed_rows.proofs.block.put_cell.Goals as goal

pub returns-clause-put : goal.returns-clause-put
returns-clause-put c =
    put_twice _ _ _ c.in_ok-put_length.ensures.put c.in_ok-extend_from_slice.ensures.items (cell_code_is c.args.cell.now)
