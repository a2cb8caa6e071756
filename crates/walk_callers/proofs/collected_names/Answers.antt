use Rattle.std.proofs.Common.{◌≡◌, List, [], ◌∷◌, map, refl, subst}
use Rattle.std.specs.Prelude.{codes, true, false}
use Rattle.line_runs.specs.Lines.{lines}
use Rattle.line_runs.specs.Texts.{AnswersLines}
use Rattle.walk_lines.specs.Texts.{LineAnswer}
use Rattle.walk_callers.proofs.KnownLines.{answered, Line}
use Rattle.walk_callers.proofs.KnownTexts.{collect_line, knows_collect}
use Rattle.walk_callers.proofs.collected_names.Goals as goal

abbrev known : List Line
known = collect_line ∷ []

known_lines : lines (codes "collect l:a b:b:c r:d\n") ≡ map (λ k. k.line) known
unfolding lines
known_lines = refl

pub returns-clause-written : goal.returns-clause-written
returns-clause-written g c = λ e.
    let all = subst (λ ls. AnswersLines LineAnswer 0 ls c.run_text.result.written.items false) known_lines (c.run_text.ensures.done e) in
    (answered 0 known _ _ (knows_collect c.law_said_answer.ensures, tt) all).0

pub returns-clause-good : goal.returns-clause-good
returns-clause-good g c = λ e.
    let all = subst (λ ls. AnswersLines LineAnswer 0 ls c.run_text.result.written.items true) known_lines (c.run_text.ensures.bad_line e) in
    let same = (answered 0 known _ _ (knows_collect c.law_said_answer.ensures, tt) all).1 in
    absurd (cc (same))
