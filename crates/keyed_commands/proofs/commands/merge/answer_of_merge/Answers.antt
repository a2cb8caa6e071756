use Rattle.std.proofs.Common.{sym}
use Rattle.keyed_commands.proofs.commands.merge.answer_of_merge.Goals as goal

pub returns-in_ok-answer : goal.returns-in_ok-answer
returns-in_ok-answer c = rw (sym c.if-is_whole.ensures) c.in_ok-answer.ensures

pub returns-in_ok-answer-2 : goal.returns-in_ok-answer-2
returns-in_ok-answer-2 c = rw (sym c.if-is_whole.ensures) c.in_ok-answer-2.ensures
