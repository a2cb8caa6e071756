use Rattle.std.proofs.Common.{◌≡◌, List, [], ◌∷◌, map, refl, subst}
use Rattle.std.specs.Prelude.{codes, true, false}
use Rattle.line_runs.specs.Lines.{lines}
use Rattle.line_runs.specs.Texts.{AnswersLines}
use Rattle.walk_lines.specs.Texts.{LineAnswer}
use Rattle.walk_callers.proofs.KnownLines.{answered, Line}
use Rattle.walk_callers.proofs.KnownTexts.{ends_line, knows_ends, knows_walk, walk_line}
use Rattle.walk_callers.proofs.walked_names.Goals as goal

abbrev known : List Line
known = walk_line ∷ ends_line ∷ []

known_lines : lines (codes "walk r:b l:a l:c\nends bfb r:b l:a l:c") ≡ map (λ k. k.line) known
unfolding lines
known_lines = refl

pub returns-clause-written : goal.returns-clause-written
returns-clause-written g c = λ e.
    let all = subst (λ ls. AnswersLines LineAnswer 0 ls c.run_text.result.written.items false) known_lines (c.run_text.ensures.done e) in
    (answered 0 known _ _ (knows_walk c.law_said_answer.ensures, (knows_ends c.law_said_answer.ensures, tt)) all).0

pub returns-clause-good : goal.returns-clause-good
returns-clause-good g c = λ e.
    let all = subst (λ ls. AnswersLines LineAnswer 0 ls c.run_text.result.written.items true) known_lines (c.run_text.ensures.bad_line e) in
    let same = (answered 0 known _ _ (knows_walk c.law_said_answer.ensures, (knows_ends c.law_said_answer.ensures, tt)) all).1 in
    absurd (cc (same))
