use Rattle.std.proofs.Common.{◌∙◌, ◌++◌, ap}
use Rattle.std.specs.Prelude.{None, codes, false, true}
use Rattle.csv.specs.Writing.{escaped}
use Rattle.keyed_text.specs.Spelling.{cell_as}
use Rattle.command_callers.proofs.texts.known_cells.Goals as goal

pub returns : goal.returns
unfolding escaped
returns c =
    let first = c.in_ok-put_cell.ensures ∙ ap (λ text. text ++ cell_as 59 None false (codes "a;\"b\"")) c.new-text.ensures.items in
    let second = c.in_ok-put_cell-2.ensures ∙ ap (λ text. text ++ cell_as 59 None true (codes "2")) first in
    c.in_ok-put_cell-3.ensures ∙ ap (λ text. text ++ cell_as 59 None false (codes "c")) second
