use Rattle.std.proofs.Common.{[], subst}
use Rattle.keyed_layout.specs.Lines.{AppendsShown}
use Rattle.keyed_layout.proofs.LineLemmas.{line-then}
use Rattle.keyed_layout.proofs.lined_up.line_under.Goals as goal

pub returns : goal.returns
returns c =
    let line = c.in_ok-line.line in
    let put = c.put_cells_of.new.line in
    line-then c.args.word.now [] c.args.key.now line put c.in_ok-line.ensures (subst (λ cells. AppendsShown cells line put) c.iter.ensures.rest c.in_ok-put_cells_of.ensures)
