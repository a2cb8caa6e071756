use Rattle.std.proofs.Common.{◌∙◌, sym}
use Rattle.keyed_text.proofs.QuoteLemmas.{behind-all, behind-more}
use Rattle.keyed_text.proofs.quotes.Marks.behind_each.Goals as goal

pub returns-in_err-place : goal.returns-in_err-place
returns-in_err-place c =
    let more = behind-more c.args.self c.loop-byte.place c.args.bytes.now c.loop-byte.byte-index c.loop-byte-test.true in
    c.from_residual.ensures ∙ sym (rw (sym c.after.ensures ∙ c.in_err-place.was) at more) ∙ c.loop-byte.invariant

pub loop-byte-preserved : goal.loop-byte-preserved
loop-byte-preserved c =
    let more = behind-more c.args.self c.loop-byte.place c.args.bytes.now c.loop-byte.byte-index c.loop-byte-test.true in
    sym (rw (sym c.after.ensures ∙ c.in_ok-place.was) at more) ∙ c.loop-byte.invariant

pub returns : goal.returns
returns c = sym (behind-all c.args.self c.loop-byte.place c.args.bytes.now c.loop-byte.byte-index c.loop-byte-test.false) ∙ c.loop-byte.invariant
