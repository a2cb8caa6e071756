use Rattle.std.proofs.Common.{refl}
use Rattle.line_words.proofs.GrowthLemmas.{extends_same}
use Rattle.walk_lines.specs.Texts.{LineAnswer, bad_text}
use Rattle.walk_lines.proofs.AnswerLemmas.{answered}
use Rattle.walk_lines.proofs.CommandLemmas.{answer_said, bad_said}
use Rattle.walk_lines.proofs.answer.append_line.Goals as goal

pub returns-in_ok-append_answer-in-Some-clause-answer : goal.returns-in_ok-append_answer-in-Some-clause-answer
unfolding LineAnswer
returns-in_ok-append_answer-in-Some-clause-answer g c =
    let a = c.in_ok-append_answer-in-Some.ensures.text in
    let m = answer_said c.args.line.now c.in_ok-answer.field-0 c.in-Some.answer c.in-Some.is c.in_ok-answer.ensures in
    (a.0, (m.0, m.1, answered m.0 c.in-Some.answer a.0 m.2 a.1), a.2)

pub returns-in_ok-append_bad_line-in-None-clause-answer : goal.returns-in_ok-append_bad_line-in-None-clause-answer
unfolding LineAnswer
returns-in_ok-append_bad_line-in-None-clause-answer g c = (
  bad_text c.args.number,
  (bad_said c.args.line.now c.in_ok-answer.field-0 c.in-None.is c.in_ok-answer.ensures, refl),
  c.in_ok-append_bad_line-in-None.ensures.text,
)

pub returns-in_err-answer-clause-grown : goal.returns-in_err-answer-clause-grown
returns-in_err-answer-clause-grown g c = extends_same _
