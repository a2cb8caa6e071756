use Rattle.std.proofs.Common.{◌∙◌}
use Rattle.std.proofs.lemmas.List.{drop_all, drop_more}
use Rattle.keyed_files.proofs.WritingLemmas.{place-then, places-end}
use Rattle.keyed_files.proofs.written.Written.put_placed.Goals as goal

pub loop-place-preserved : goal.loop-place-preserved
loop-place-preserved c = record {
  key = c.take.ensures.key ∙ c.loop-place.invariant.key;
  puts = λ end h. c.loop-place.invariant.puts end
      (place-then _ _ _ c.args.order.now c.loop-place.place-index _ _ _ _ _ _ (drop_more c.args.order.now c.loop-place.place-index _ c.loop-place-test.true)
      c.loop-place.invariant.key c.take.ensures.cell c.take.ensures.rest c.in_ok-put_cell.ensures h);
}

pub returns : goal.returns
returns c = c.loop-place.invariant.puts _ (places-end _ c.args.order.now c.loop-place.place-index _ _ (drop_all c.loop-place.place-index c.args.order.now c.loop-place-test.false))
