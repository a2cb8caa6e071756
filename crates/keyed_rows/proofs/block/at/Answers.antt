use Rattle.std.proofs.Common.{◌≡◌, length, sym, ◌∙◌, ap, arith}
use Rattle.std.specs.Prelude.{slice_get}
use Rattle.std.proofs.lemmas.Bool.Decides.{nat_tests}
use Rattle.keyed_rows.specs.Layout.{cells_of}
use Rattle.keyed_rows.proofs.Facts.{cells_of_none, drop_next, place_first, place_past}
use Rattle.keyed_rows.proofs.block.at.Goals as goal

pub returns-then-is_empty : goal.returns-then-is_empty
returns-then-is_empty c =
    let none : length c.loop-i.rest.now ≡ 0 = grind (arith, nat_tests) in
    sym (place_past (cells_of c.args.block.now) c.loop-i.i c.args.place (sym c.loop-i.invariant.all ∙ cells_of_none c.loop-i.rest.now none) (omega arith))

pub loop-i-preserved : goal.loop-i-preserved
loop-i-preserved c = record {
  rest = c.split_first.ensures.rest;
  all = sym (drop_next (cells_of c.args.block.now) c.loop-i.i _ _ (sym c.loop-i.invariant.all ∙ c.split_first.ensures.cells));
}

pub returns-then-is_empty-2 : goal.returns-then-is_empty-2
returns-then-is_empty-2 c =
    let none : length c.loop-i.rest.now ≡ 0 = grind (arith, nat_tests) in
    sym (place_past (cells_of c.args.block.now) c.loop-i.i c.args.place (sym c.loop-i.invariant.all ∙ cells_of_none c.loop-i.rest.now none) (omega arith))

pub returns-else-is_empty-2 : goal.returns-else-is_empty-2
returns-else-is_empty-2 c =
    let here : c.loop-i.i ≡ c.args.place = omega arith in
    let first = place_first (cells_of c.args.block.now) c.loop-i.i _ _ (sym c.loop-i.invariant.all ∙ c.split_first-else-is_empty-2.ensures.cells) in
    sym (ap (slice_get (cells_of c.args.block.now)) (sym here) ∙ first)
