use Rattle.line_runs.proofs.BlockLemmas.{line_behind, endless_behind}
use Rattle.line_runs.proofs.session.split_line.Goals as goal

pub returns-clause-line : goal.returns-clause-line
returns-clause-line c =
    let s = c.split_at.ensures in
    let l = c.in_ok-last.ensures.line in
    line_behind c.args.bytes.now c.blocks_len.result c.split_at.result.0.now c.split_at.result.1.now c.in_ok-last.last.now c.in_ok-last.rest.now s.front s.back c.blocks_len.ensures.endless l.0 l.1

pub returns-in_err-last-clause-line : goal.returns-in_err-last-clause-line
returns-in_err-last-clause-line c =
    let s = c.split_at.ensures in
    rw c.from_residual.ensures (endless_behind c.args.bytes.now c.blocks_len.result c.split_at.result.1.now s.back c.blocks_len.ensures.endless c.in_err-last.ensures.line)
