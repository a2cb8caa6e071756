use Rattle.std.proofs.Common.{◌∙◌, ◌++◌, ap, append-nil, option_map, sym, Some}
use Rattle.keyed_jobs.specs.ByNumber.{settled_cells}
use Rattle.keyed_jobs.proofs.ByNumberLemmas.{cells-then, none-left, settled-more, still}
use Rattle.keyed_jobs.proofs.by_number.settled_cells.Goals as goal

pub loop-alike-preserved : goal.loop-alike-preserved
loop-alike-preserved c =
    let row = c.loop-alike.merged in
    ap (λ all. option_map (λ rest. all ++ rest) (settled_cells (still c.next.new.self))) c.in_ok-push-in-Some-settled_cell.ensures.pushed
    ∙ settled-more row c.in-Some-settled_cell.cell.now (c.in-Some.alike.now, (c.in-Some.old.now, (c.in-Some.our.now, c.in-Some.their.now)))
    (still c.next.new.self) (sym c.in-Some-settled_cell.ensures)
    ∙ ap (λ all. option_map (λ rest. row ++ rest) (settled_cells all))
    (sym (cells-then c.loop-alike.alike-iterator c.next.new.self (c.in-Some.alike, (c.in-Some.old, (c.in-Some.our, c.in-Some.their))) c.in-Some.ensures.steps))
    ∙ c.loop-alike.invariant

pub returns : goal.returns
returns c =
    ap Some (sym (append-nil c.loop-alike.merged)) ∙ ap (λ cells. option_map (λ rest. c.loop-alike.merged ++ rest) (settled_cells cells))
    (sym (none-left c.loop-alike.alike-iterator c.next.new.self c.next.result c.in-None.is c.next.ensures.steps)) ∙ c.loop-alike.invariant
