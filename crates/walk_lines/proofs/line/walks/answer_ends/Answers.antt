use Rattle.std.proofs.Common.{map, ◌∙◌}
use Rattle.walk_lines.specs.Commands.{Ends}
use Rattle.walk_lines.specs.Answers.{shown}
use Rattle.walk_lines.proofs.CommandLemmas.{items_said}
use Rattle.walk_lines.proofs.EndLemmas.{no_calls, says_ends}
use Rattle.walk_lines.proofs.ShownLemmas.{shown_collected}
use Rattle.walk_lines.proofs.line.walks.answer_ends.Goals as goal

pub returns-in_ok-collect_items-in-Some-2 : goal.returns-in_ok-collect_items-in-Some-2
returns-in_ok-collect_items-in-Some-2 g c =
    let bytes = c.args.words.now in
    let letters = c.split_word.result.0.now in
    let rest = c.split_word.result.1.now in
    let items = c.in-Some-2.items.items in
    let m = c.in-Some.ensures in
    let said = items_said rest c.in_ok-items-in-Some.field-0 c.in-Some-2.items c.in-Some-2.is c.in_ok-items-in-Some.ensures in (
      Ends m.0 (map shown items),
      says_ends bytes letters rest m.0 (map shown items) c.split_word.ensures.word m.1 m.2 said,
      (shown_collected _ items c.in_ok-collect_items-in-Some-2.ensures, m.3 ∙ m.2),
    )

pub returns-in-None : goal.returns-in-None
returns-in-None g c =
    no_calls c.args.words.now c.split_word.result.0.now c.split_word.result.1.now c.split_word.ensures.none c.split_word.ensures.word c.in-None.ensures
