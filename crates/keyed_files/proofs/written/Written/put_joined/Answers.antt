use Rattle.std.proofs.Common.{◌≡◌, ◌∙◌, arith}
use Rattle.keyed_files.specs.JoinedRows.{rows_beside}
use Rattle.keyed_files.proofs.WritingLemmas.{each-none, no-rows-left, place-more, places-all}
use Rattle.keyed_files.proofs.written.Written.put_joined.Goals as goal

pub loop-place-init : goal.loop-place-init
loop-place-init c = no-rows-left _ _ (each-none (rows_beside c.args.columns.now c.args.key.now c.args.sides))

pub loop-place-preserved : goal.loop-place-preserved
loop-place-preserved c = place-more (rows_beside c.args.columns.now c.args.key.now c.args.sides) _ _ _ c.loop-place.place c.loop-place.invariant c.in_ok-put_beside.ensures

pub returns : goal.returns
returns c =
    let all : c.loop-place.place ≡ c.count_of-place-end.result = omega arith in
    places-all (rows_beside c.args.columns.now c.args.key.now c.args.sides) _ _ _ _ (all ∙ c.count_of-place-end.ensures) c.loop-place.invariant
