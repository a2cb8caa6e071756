use Rattle.std.proofs.Common.{◌∙◌}
use Rattle.std.proofs.lemmas.List.{drop_all, drop_more}
use Rattle.keyed_files.proofs.SpelledLemmas.{cell-placed-then, cells-placed}
use Rattle.keyed_files.proofs.spelled_table.place_row.Goals as goal

pub loop-place-preserved : goal.loop-place-preserved
loop-place-preserved c = record {
  key = c.take.ensures.key ∙ c.loop-place.invariant.key;
  row =
      cell-placed-then c.args.order.now c.loop-place.place-index _ _ _ _ _ _ _ _ (drop_more c.args.order.now c.loop-place.place-index _ c.loop-place-test.true)
      c.loop-place.invariant.key c.take.ensures.cell c.take.ensures.rest c.in_ok-push.ensures.pushed
      ∙ c.loop-place.invariant.row;
}

pub returns : goal.returns
returns c =
    cells-placed c.args.order.now c.loop-place.place-index _ _ _ (drop_all c.loop-place.place-index c.args.order.now c.loop-place-test.false)
    ∙ c.loop-place.invariant.row
