use Rattle.std.proofs.Common.{◌≡◌, ◌∙◌, ◌+◌, ap, arith, decimal}
use Rattle.keyed_columns.proofs.KeyColumnLemmas.{none-names}
use Rattle.keyed_columns.proofs.NumberLemmas.{one-more-number}
use Rattle.keyed_columns.proofs.header.Header.numbers.Goals as goal

pub loop-number-preserved : goal.loop-number-preserved
loop-number-preserved c =
    let next : c.saturating_add.result ≡ c.loop-number.number + 1 = omega (arith, c.saturating_add.ensures, c.loop-number-test.true, c.ranges.count.fits) in
    one-more-number c.loop-number.number _ _ _ (omega (arith, c.loop-number-test.true, c.ranges.count.fits))
    (c.as_bytes.ensures.value ∙ c.in_ok-name.ensures.ok ∙ ap decimal next) c.loop-number.invariant c.in_ok-add.ensures.names

pub into_header-requires : goal.into_header-requires
into_header-requires c = none-names _ _ c.new.ensures c.new-2.ensures
