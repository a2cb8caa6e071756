use Rattle.std.proofs.Common.{map, refl}
use Rattle.walk_lines.specs.Commands.{Collect}
use Rattle.walk_lines.specs.Answers.{shown}
use Rattle.walk_lines.proofs.CommandLemmas.{items_said}
use Rattle.walk_lines.proofs.ShownLemmas.{shown_collected}
use Rattle.walk_lines.proofs.line.walks.answer_collect.Goals as goal

pub returns-in_ok-collect_items-in-Some : goal.returns-in_ok-collect_items-in-Some
returns-in_ok-collect_items-in-Some g c =
    let items = c.in-Some.items.items in
    let said = items_said c.args.words.now c.in_ok-items.field-0 c.in-Some.items c.in-Some.is c.in_ok-items.ensures in
    (Collect (map shown items), record { name = refl; words = said.words; formed = said.names }, shown_collected _ items c.in_ok-collect_items-in-Some.ensures)
