use Rattle.std.proofs.Common.{map, refl}
use Rattle.walk_lines.specs.Commands.{Walk}
use Rattle.walk_lines.specs.Answers.{shown}
use Rattle.walk_lines.proofs.CommandLemmas.{items_said}
use Rattle.walk_lines.proofs.ShownLemmas.{shown_regrouped}
use Rattle.walk_lines.proofs.line.walks.answer_walk.Goals as goal

pub returns-in_ok-regroup-in-Some : goal.returns-in_ok-regroup-in-Some
returns-in_ok-regroup-in-Some g c =
    let items = c.in-Some.items.items in
    let said = items_said c.args.words.now c.in_ok-items.field-0 c.in-Some.items c.in-Some.is c.in_ok-items.ensures in
    (Walk (map shown items), record { name = refl; words = said.words; formed = said.names }, shown_regrouped _ items c.in_ok-regroup-in-Some.ensures)
