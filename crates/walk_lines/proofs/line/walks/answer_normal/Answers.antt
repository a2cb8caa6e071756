use Rattle.std.proofs.Common.{map, refl}
use Rattle.walk_lines.specs.Commands.{Normal}
use Rattle.walk_lines.specs.Answers.{shown}
use Rattle.walk_lines.proofs.CommandLemmas.{items_said}
use Rattle.walk_lines.proofs.ShownLemmas.{normal_is}
use Rattle.walk_lines.proofs.line.walks.answer_normal.Goals as goal

pub returns-in-Some : goal.returns-in-Some
returns-in-Some g c =
    let items = c.in-Some.items.items in
    let said = items_said c.args.words.now c.in_ok-items.field-0 c.in-Some.items c.in-Some.is c.in_ok-items.ensures in
    (Normal (map shown items), record { name = refl; words = said.words; formed = said.names }, normal_is c.is_normal.result items c.deref.result.now c.deref.ensures.value c.is_normal.ensures)
