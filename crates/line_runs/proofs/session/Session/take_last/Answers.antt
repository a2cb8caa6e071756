use Rattle.std.proofs.Common.{rules, ◌≡◌, ◌≢◌, ◌++◌, ◌∷◌, [], length, refl, sym, subst}
use Rattle.line_runs.specs.Lines.{lines}
use Rattle.line_runs.specs.Texts.{AnswersLines}
use Rattle.line_runs.proofs.SessionLemmas.{ended_with_none, ended_with_some, no_bytes, retaken}
use Rattle.line_runs.proofs.session.Session.take_last.Goals as goal

pub returns-then-is_empty-clause-answers : goal.returns-then-is_empty-clause-answers
returns-then-is_empty-clause-answers g c given written t =
    let s = c.args.self.now in
    let zero : length s.unfinished.items ≡ 0 = grind rules in
    let none : s.unfinished.items ≡ [] = no_bytes s.unfinished.items zero in
    ended_with_none g.N.Answerer.answers given written s.answers.unwritten.items s.answers.lines s.answers.any_bad (retaken g.N.Answerer.answers _ _ _ _ _ _ _ _ _ t (sym none) refl refl)

pub returns-clause-answers : goal.returns-clause-answers
returns-clause-answers g c given written t =
    let s = c.args.self.now in
    let a = c.in_ok-add.ensures.answer in
    let some : s.unfinished.items ≢ [] = grind rules in
    let la = subst (λ l. g.N.Answerer.answers c.add.new.self.lines l a.0 a.1) c.deref.ensures.value a.2 in
    let all = ended_with_some g.N.Answerer.answers given written s.unfinished.items s.answers.unwritten.items s.answers.lines c.add.new.self.lines s.answers.any_bad t some a.0 a.1 la c.in_ok-add.ensures.number in
    subst (λ l. AnswersLines g.N.Answerer.answers 0 (lines given) (written ++ l) c.add.new.self.any_bad) (sym a.3)
    (subst (λ x. AnswersLines g.N.Answerer.answers 0 (lines given) (written ++ (s.answers.unwritten.items ++ a.0 ++ 10 ∷ [])) x) (sym a.4) all)
