use Rattle.std.proofs.Common.{◌≡◌, ◌∙◌, arith}
use Rattle.keyed_cut.specs.Partitioned.{fitted}
use Rattle.keyed_files.proofs.WritingLemmas.{no-cells, then-cells}
use Rattle.keyed_cut.proofs.ListingTextLemmas.{fitted-one}
use Rattle.keyed_cut.proofs.listing.put_key.Goals as goal

pub loop-place-init : goal.loop-place-init
loop-place-init c = no-cells _

pub loop-place-preserved : goal.loop-place-preserved
loop-place-preserved c =
    rw (fitted-one c.loop-place.place c.args.bound.now)
    (then-cells _ _ _ (fitted c.loop-place.place c.args.bound.now) _ c.loop-place.invariant (rw c.cell_of.ensures at c.in_ok-put_cell.ensures))

pub returns : goal.returns
returns c =
    let all : c.loop-place.place ≡ c.args.cells = omega arith in
    rw all at c.loop-place.invariant
