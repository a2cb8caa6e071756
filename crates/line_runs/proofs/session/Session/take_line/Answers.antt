use Rattle.std.proofs.Common.{rules, ◌≡◌, ◌++◌, [], length, sym, subst, ◌∙◌}
use Rattle.line_runs.proofs.SessionLemmas.{line_taken, no_bytes, retaken}
use Rattle.line_runs.proofs.session.Session.take_line.Goals as goal

pub returns-then-is_empty-clause-taken : goal.returns-then-is_empty-clause-taken
returns-then-is_empty-clause-taken g c given written h t =
    let s = c.args.self.now in
    let line = c.args.line.now in
    let zero : length s.unfinished.items ≡ 0 = grind rules in
    let none : s.unfinished.items ≡ [] = no_bytes s.unfinished.items zero in
    let a = c.in_ok-add.ensures.answer in
    retaken g.N.Answerer.answers _ _ _ _ _ _ _ _ _
    (line_taken g.N.Answerer.answers given written s.unfinished.items s.answers.unwritten.items s.answers.lines c.add.new.self.lines s.answers.any_bad t line h a.0 a.1 (subst (λ u. g.N.Answerer.answers c.add.new.self.lines (u ++ line) a.0 a.1) (sym none) a.2) c.in_ok-add.ensures.number)
    none a.3 a.4

pub returns-clause-taken : goal.returns-clause-taken
returns-clause-taken g c given written h t =
    let s = c.args.self.now in
    let line = c.args.line.now in
    let a = c.in_ok-add-2.ensures.answer in
    let full : c.deref.result.now ≡ s.unfinished.items ++ line = c.deref.ensures.value ∙ c.in_ok-extend_from_slice.ensures.items in
    retaken g.N.Answerer.answers _ _ _ _ _ _ _ _ _
    (line_taken g.N.Answerer.answers given written s.unfinished.items s.answers.unwritten.items s.answers.lines c.add-2.new.self.lines s.answers.any_bad t line h a.0 a.1 (subst (λ l. g.N.Answerer.answers c.add-2.new.self.lines l a.0 a.1) full a.2) c.in_ok-add-2.ensures.number)
    c.clear.ensures.items a.3 a.4
