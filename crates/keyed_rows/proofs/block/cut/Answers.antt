use Rattle.std.proofs.Common.{◌≡◌, ℕ, List, arith, length-drop}
use Rattle.keyed_rows.specs.Layout.{first_cell, rest_of}
use Rattle.keyed_rows.proofs.Facts.{splits_off, first_cell-cut, rest_of-cut}
use Rattle.keyed_rows.proofs.block.cut.Goals as goal

pub split_at-requires : goal.split_at-requires
split_at-requires c =
    let k = splits_off c.args.block.now c.requires.is_block c.requires.some in omega (arith, k.room)

pub split_at-requires-2 : goal.split_at-requires-2
split_at-requires-2 c =
    let k = splits_off c.args.block.now c.requires.is_block c.requires.some in
    rw c.split_at.ensures.back (omega (arith, k.room, c.requires.head, c.requires.count, length-drop c.args.head c.args.block.now))

-- what the call returns
record Parts (block cell rest : List ℕ) : Type 0 where
  cell_is : cell ≡ first_cell block
  rest_is : rest ≡ rest_of block

parts : (c : goal.After-split_at-2) → Parts c.args.block.now c.split_at-2.result.0.now c.split_at-2.result.1.now
parts c =
    let f = first_cell-cut c.args.block.now c.args.head c.args.count c.requires.head c.requires.count in
    let r = rest_of-cut c.args.block.now c.args.head c.args.count c.requires.head c.requires.count in
    record {
      cell_is = cc (f, c.split_at.ensures.back, c.split_at-2.ensures.front);
      rest_is = cc (r, c.split_at.ensures.back, c.split_at-2.ensures.back);
    }

pub returns-clause-cells : goal.returns-clause-cells
returns-clause-cells c =
    let k = splits_off c.args.block.now c.requires.is_block c.requires.some in
    let p = parts c in rw (p.cell_is, p.rest_is) k.cells

pub returns-clause-rest : goal.returns-clause-rest
returns-clause-rest c =
    let k = splits_off c.args.block.now c.requires.is_block c.requires.some in
    let p = parts c in rw p.rest_is k.rest

pub returns-clause-shorter : goal.returns-clause-shorter
returns-clause-shorter c =
    let k = splits_off c.args.block.now c.requires.is_block c.requires.some in
    let p = parts c in rw p.rest_is k.shorter
