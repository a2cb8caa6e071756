use Rattle.std.proofs.Common.{◌≡◌, List, [], ◌∷◌, ◌++◌, map, refl, ap, ◌∙◌, subst}
use Rattle.std.specs.Prelude.{codes, true, false}
use Rattle.line_runs.specs.Lines.{lines}
use Rattle.line_runs.specs.Texts.{AnswersLines}
use Rattle.walk_lines.specs.Texts.{LineAnswer}
use Rattle.walk_callers.proofs.KnownLines.{answered, Line}
use Rattle.walk_callers.proofs.KnownTexts.{blank_line, knows_blank, knows_normal, knows_not_normal, normal_line, not_normal_line, second_bad}
use Rattle.walk_callers.proofs.bad_second_line.Goals as goal

abbrev known : List Line
known = normal_line ∷ blank_line ∷ not_normal_line ∷ []

known_lines : lines (codes "normal b:a:b l:c\n \nnormal l:c b:a:b\n") ≡ map (λ k. k.line) known
unfolding lines
known_lines = refl

pub returns-clause-written : goal.returns-clause-written
returns-clause-written g c = λ e.
    let all = subst (λ ls. AnswersLines LineAnswer 0 ls c.run_text.result.written.items true) known_lines (c.run_text.ensures.bad_line e) in
    (answered 0 known _ _ (knows_normal c.law_said_answer.ensures, (knows_blank c.law_bad_answer.ensures, (knows_not_normal c.law_said_answer.ensures, tt))) all).0
    ∙ ap (λ l. codes "yes\n" ++ (l ++ codes "\nno\n")) second_bad

pub returns-clause-bad : goal.returns-clause-bad
returns-clause-bad g c = λ e.
    let all = subst (λ ls. AnswersLines LineAnswer 0 ls c.run_text.result.written.items false) known_lines (c.run_text.ensures.done e) in
    let same = (answered 0 known _ _ (knows_normal c.law_said_answer.ensures, (knows_blank c.law_bad_answer.ensures, (knows_not_normal c.law_said_answer.ensures, tt))) all).1 in
    absurd (cc (same))
