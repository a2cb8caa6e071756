use Rattle.std.proofs.Common.{◌+◌, ◌-◌, ◌≡◌, take, drop, subst, arith}
use Rattle.line_runs.specs.Session.{HasNoEnd}
use Rattle.line_runs.proofs.BlockLemmas.{endless_more}
use Rattle.line_runs.proofs.session.blocks_len.Goals as goal

pub loop-len-preserved : goal.loop-len-preserved
loop-len-preserved c =
    let bytes = c.args.bytes.now in
    let len = c.loop-len.len in
    let size : (len + 16) - len ≡ 16 = omega arith in
    let block = subst (λ n. HasNoEnd (take n (drop len bytes))) size (c.has_line_end.ensures c.if-not-has_line_end.true) in
    (omega arith, endless_more bytes len 16 c.loop-len.invariant.1 block)
