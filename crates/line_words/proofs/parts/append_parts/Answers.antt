use Rattle.std.proofs.Common.{sym, append-nil}
use Rattle.line_words.proofs.GrowthLemmas.{extends_same, extends_trans}
use Rattle.line_words.proofs.PartLemmas.{part_more, parts_all}
use Rattle.line_words.proofs.parts.append_parts.Goals as goal

pub loop-part-init : goal.loop-part-init
loop-part-init g c = record { grown = extends_same _; text = sym (append-nil _) }

pub loop-part-preserved : goal.loop-part-preserved
loop-part-preserved g c =
    let i = c.loop-part.invariant in
    let a = c.in_ok-append_part.ensures in
    record {
      grown = extends_trans _ _ _ i.grown a.grown;
      text = part_more (λ part. part.now) c.args.parts.now c.loop-part.part-index _ c.args.output.now.items c.loop-part.output.items _ c.loop-part-test.true i.text a.text;
    }

pub returns : goal.returns
returns g c =
    let i = c.loop-part.invariant in
    record { grown = i.grown; text = parts_all (λ part. part.now) c.args.parts.now c.loop-part.part-index _ _ c.loop-part-test.false i.text }
