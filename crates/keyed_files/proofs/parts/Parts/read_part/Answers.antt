use Rattle.std.proofs.Common.{◌≡◌, ◌≤◌, arith, false, inr, rules}
use Rattle.keyed_files.proofs.PartLemmas.{counted_full, counted_next, fills_none, fills_then}
use Rattle.keyed_files.proofs.ReadingLemmas.{same-err}
use Rattle.keyed_files.proofs.parts.Parts.read_part.Goals as goal

pub loop-init : goal.loop-init
loop-init g c = (fills_none g.R.Read.remaining c.args.self.now, inr (search rules))

pub loop-preserved : goal.loop-preserved
loop-preserved g c =
    let was : c.loop.self.is_ended ≡ false = search rules in (
      fills_then g.R.Read.remaining c.args.self.now c.loop.self c.read_next.new.self c.loop.invariant.0 c.in_ok-read_next.ensures.fills,
      counted_next c.loop.self c.loop.counter c.read_next.new.self was c.loop.invariant.1 c.in_ok-read_next.ensures.step,
    )

pub returns-clause-full : goal.returns-clause-full
returns-clause-full g c =
    let le : 512 ≤ c.loop.counter = omega (arith, c.loop-test.false) in
    counted_full c.loop.self c.loop.counter c.loop.invariant.1 le

pub returns-in_err-read_next-clause-why : goal.returns-in_err-read_next-clause-why
returns-in_err-read_next-clause-why g c =
    let was : c.loop.self.is_ended ≡ false = search rules in
    same-err c.from_residual.result c.in_err-read_next.field-0.0 _ c.from_residual.ensures.1 (c.loop.self, c.loop.invariant.0, was, c.in_err-read_next.ensures.why)
