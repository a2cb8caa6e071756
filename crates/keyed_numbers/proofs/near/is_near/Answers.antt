use Rattle.std.proofs.Common.{◌≡◌, sym, ◌∙◌, ap, arith}
use Rattle.keyed_numbers.specs.Numbers.{depth, depth_of, is_near, top_of}
use Rattle.keyed_numbers.specs.Decimals.{number_of}
use Rattle.keyed_numbers.proofs.NearLemmas.{Stand, near-other, near-same}
use Rattle.keyed_numbers.proofs.near.is_near.Goals as goal

pub returns-then-has_minus : goal.returns-then-has_minus
returns-then-has_minus c =
    let e = rw (c.has_minus.ensures, c.has_minus-2.ensures) at c.if-has_minus.true in
    let n : c.max-depth.result ≡ depth_of c.top_of-top.result (number_of c.args.number) (number_of c.args.other) (number_of c.args.tolerance)
    = omega (arith, c.max-depth.ensures, c.max.ensures, c.depth.ensures, c.depth-2.ensures, c.depth-3.ensures) in
    near-same c.args.tolerance c.args.number c.args.other c.below.result c.below-2.result c.below-3.result c.top_of-top.result c.max-depth.result
    c.is_difference_within.result (record {
      top_is = c.top_of-top.ensures.value;
      depth_is = n;
      a_zeros = c.below.ensures.zeros;
      a_number = c.below.ensures.number;
      b_zeros = c.below-2.ensures.zeros;
      b_number = c.below-2.ensures.number;
      t_zeros = c.below-3.ensures.zeros;
      t_number = c.below-3.ensures.number;
    })
    e c.is_difference_within.ensures

pub returns-else-has_minus : goal.returns-else-has_minus
returns-else-has_minus c =
    let e = rw (c.has_minus.ensures, c.has_minus-2.ensures) at c.if-has_minus.false in
    let n : c.max-depth.result ≡ depth_of c.top_of-top.result (number_of c.args.number) (number_of c.args.other) (number_of c.args.tolerance)
    = omega (arith, c.max-depth.ensures, c.max.ensures, c.depth.ensures, c.depth-2.ensures, c.depth-3.ensures) in
    near-other c.args.tolerance c.args.number c.args.other c.below.result c.below-2.result c.below-3.result c.top_of-top.result c.max-depth.result
    c.is_sum_within.result (record {
      top_is = c.top_of-top.ensures.value;
      depth_is = n;
      a_zeros = c.below.ensures.zeros;
      a_number = c.below.ensures.number;
      b_zeros = c.below-2.ensures.zeros;
      b_number = c.below-2.ensures.number;
      t_zeros = c.below-3.ensures.zeros;
      t_number = c.below-3.ensures.number;
    })
    e c.is_sum_within.ensures
