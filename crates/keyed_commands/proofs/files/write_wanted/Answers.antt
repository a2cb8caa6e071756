use Rattle.std.proofs.Common.{refl}
use Rattle.keyed_commands.proofs.files.write_wanted.Goals as goal

pub returns-in_ok-status-in-Answer : goal.returns-in_ok-status-in-Answer
returns-in_ok-status-in-Answer g c = rw c.in-Answer.is (rw c.of.ensures c.in_ok-status-in-Answer.ensures)

pub returns-in_ok-answer-in-Status : goal.returns-in_ok-answer-in-Status
returns-in_ok-answer-in-Status g c =
    rw c.in-Status.is (c.in_ok-answer-in-Status.answer, c.in_ok-answer-in-Status.ensures, refl, c.of-in-Status.ensures)
