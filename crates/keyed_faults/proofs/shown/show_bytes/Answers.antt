use Rattle.std.proofs.Common.{refl, sym, arith, take_all}
use Rattle.std.proofs.lemmas.List.{take_more}
use Rattle.keyed_faults.proofs.ShownLemmas.{shown_append, shown_as_byte, shown_nothing, shown_of_eq}
use Rattle.keyed_faults.proofs.shown.show_bytes.Goals as goal

pub loop-byte-init : goal.loop-byte-init
loop-byte-init g c plain = shown_nothing _ _ plain

pub loop-byte-preserved : goal.loop-byte-preserved
loop-byte-preserved g c plain =
    let now = c.loop-byte.invariant plain in
    let more = shown_as_byte _ _ _ _ (omega (arith, c.type_inv.bytes c.loop-byte.byte-index)) (c.in_ok-show_byte.ensures now.wrote.plain refl) in
    shown_of_eq _ _ _ _ _ (sym (take_more c.args.bytes.now c.loop-byte.byte-index 0 c.loop-byte-test.true)) (shown_append _ _ _ _ _ _ now more)

pub returns : goal.returns
returns g c plain ok = shown_of_eq _ _ _ _ _ (take_all _ _ c.loop-byte-test.false) (c.loop-byte.invariant plain)
