use Rattle.std.proofs.Common.{[]}
use Rattle.keyed_layout.proofs.LineLemmas.{line-then}
use Rattle.keyed_layout.proofs.lined_up.heading.Goals as goal

pub returns : goal.returns
returns c =
    let columns = c.args.columns.now in
    line-then [] columns.key columns.rest c.put_shown.new.line c.put_shown-2.new.line (line-then [] [] columns.key c.in_ok-line.line c.put_shown.new.line c.in_ok-line.ensures c.in_ok-put_shown.ensures) c.in_ok-put_shown-2.ensures
