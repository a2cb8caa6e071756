use Rattle.std.proofs.Common.{◌∙◌, ◌++◌, ap, append-nil, map, sym}
use Rattle.keyed_jobs.specs.ConflictCells.{told_cell}
use Rattle.keyed_jobs.proofs.ByNumberLemmas.{none-left}
use Rattle.keyed_jobs.proofs.conflict_cells.told_row.Goals as goal

pub returns : goal.returns
returns c =
    sym (append-nil c.loop-alike.row)
    ∙ ap (λ l. c.loop-alike.row ++ map (told_cell c.args.version) l)
    (sym (none-left c.loop-alike.alike-iterator c.next.new.self c.next.result c.in-None.is c.next.ensures.steps))
    ∙ c.loop-alike.invariant
