use Rattle.std.proofs.Common.{[]}
use Rattle.keyed_layout.specs.Lines.{picked_cells}
use Rattle.keyed_layout.proofs.LineLemmas.{line-then}
use Rattle.keyed_layout.proofs.lined_up.heading_of_picked.Goals as goal

pub returns : goal.returns
returns c =
    let columns = c.args.columns.now in
    line-then [] columns.key (picked_cells c.args.picked.now columns.rest) c.put_shown.new.line c.put_picked.new.line (line-then [] [] columns.key c.in_ok-line.line c.put_shown.new.line c.in_ok-line.ensures c.in_ok-put_shown.ensures) c.in_ok-put_picked.ensures
