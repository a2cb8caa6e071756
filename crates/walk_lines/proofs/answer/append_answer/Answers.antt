use Rattle.walk_lines.proofs.AnswerLemmas.{text_ended}
use Rattle.walk_lines.proofs.answer.append_answer.Goals as goal

pub returns-clause-text : goal.returns-clause-text
returns-clause-text g c = text_ended c.args.answer _ _ _ c.in_ok-append_text.ensures.grown c.in_ok-append_text.ensures.text c.in_ok-append_part.ensures.text
