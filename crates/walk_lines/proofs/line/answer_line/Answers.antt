use Rattle.walk_lines.proofs.CommandLemmas.{bad_first, line_answered, named_words}
use Rattle.walk_lines.proofs.line.answer_line.Goals as goal

pub returns-in-Some : goal.returns-in-Some
returns-in-Some g c =
    let words = c.split_word.result in
    line_answered c.args.line.now words.1.now c.in-Some.name c.answer_command.result
    (named_words c.args.line.now words.0.now words.1.now c.in-Some.name c.split_word.ensures.word c.in-Some.ensures) c.answer_command.ensures

pub returns-in-None : goal.returns-in-None
returns-in-None g c =
    bad_first c.args.line.now c.split_word.result.0.now c.split_word.result.1.now c.split_word.ensures.none c.split_word.ensures.word c.in-None.ensures
