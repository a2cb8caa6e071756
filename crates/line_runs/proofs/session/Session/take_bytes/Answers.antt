use Rattle.std.proofs.Common.{ℕ, List, ◌≡◌, ◌++◌, ◌∷◌, [], refl, sym, ap, subst, ◌∙◌, append-nil, append_assoc}
use Rattle.line_runs.specs.Session.{HasNoEnd, HasTaken, Taken}
use Rattle.line_runs.proofs.SessionLemmas.{ahead_of, taken_ahead, no_line, rest_taken, retaken, done_more, given_more}
use Rattle.line_runs.proofs.session.Session.take_bytes.Goals as goal

pub loop-line-init : goal.loop-line-init
loop-line-init g c = ([], refl, λ given written t. subst (λ x. Taken g.N.Answerer.answers x written c.args.self.now) (sym (append-nil given)) t)

pub loop-line-preserved : goal.loop-line-preserved
loop-line-preserved g c =
    let (done, split, taken) = c.loop-line.invariant in
    let line = c.in-Some.line.now in
    let s = c.in-Some.ensures.line in (
      done ++ line ++ 10 ∷ [],
      done_more _ done _ line c.in-Some.after.now split s.0,
      λ given written t. subst (λ x. Taken g.N.Answerer.answers x written c.take_line.new.self) (given_more given done line) (c.in_ok-take_line.ensures.taken (given ++ done) written s.1 (taken given written t)),
    )

-- the bytes given before, and these
these : (given done rest bytes : List ℕ) → bytes ≡ done ++ rest → given ++ bytes ≡ (given ++ done) ++ rest
these given done rest bytes split = ap (λ l. given ++ l) split ∙ sym (append_assoc given done rest)

pub returns-in_err-take_line-clause-ahead : goal.returns-in_err-take_line-clause-ahead
returns-in_err-take_line-clause-ahead g c given written t =
    let (done, split, taken) = c.loop-line.invariant in
    let s = c.loop-line.self in
    let rest = c.loop-line.rest.now in
    ahead_of g.N.Answerer.answers ((given ++ done) ++ rest) _ written s.answers.unwritten.items _ (these given done rest _ split) c.in_err-take_line.ensures.refused
    (taken_ahead g.N.Answerer.answers (given ++ done) written s.unfinished.items s.answers.unwritten.items s.answers.lines s.answers.any_bad (taken given written t) rest)

pub returns-in_err-extend_from_slice-clause-ahead : goal.returns-in_err-extend_from_slice-clause-ahead
returns-in_err-extend_from_slice-clause-ahead g c given written t =
    let (done, split, taken) = c.loop-line.invariant in
    let s = c.loop-line.self in
    let rest = c.loop-line.rest.now in
    ahead_of g.N.Answerer.answers ((given ++ done) ++ rest) _ written s.answers.unwritten.items _ (these given done rest _ split) refl
    (taken_ahead g.N.Answerer.answers (given ++ done) written s.unfinished.items s.answers.unwritten.items s.answers.lines s.answers.any_bad (taken given written t) rest)

pub returns-clause-ahead : goal.returns-clause-ahead
returns-clause-ahead g c given written t =
    let (done, split, taken) = c.loop-line.invariant in
    let s = c.loop-line.self in
    let rest = c.loop-line.rest.now in
    ahead_of g.N.Answerer.answers ((given ++ done) ++ rest) _ written s.answers.unwritten.items _ (these given done rest _ split) refl
    (taken_ahead g.N.Answerer.answers (given ++ done) written s.unfinished.items s.answers.unwritten.items s.answers.lines s.answers.any_bad (taken given written t) rest)

pub returns-clause-taken : goal.returns-clause-taken
returns-clause-taken g c given written t =
    let (done, split, taken) = c.loop-line.invariant in
    let rest = c.loop-line.rest.now in
    let s = c.loop-line.self in
    let last : HasNoEnd rest = no_line rest (λ parts. (rest ≡ parts.0.now ++ 10 ∷ parts.1.now) × HasNoEnd parts.0.now) c.split_line.result c.split_line.ensures.line c.in_default.not-Some in
    let r = rest_taken g.N.Answerer.answers (given ++ done) written s.unfinished.items s.answers.unwritten.items s.answers.lines s.answers.any_bad (taken given written t) rest last in
    let all : (given ++ done) ++ rest ≡ given ++ c.args.bytes.now = append_assoc given done rest ∙ ap (λ l. given ++ l) (sym split) in
    retaken g.N.Answerer.answers _ _ _ _ _ _ _ _ _
    (subst (λ x. HasTaken g.N.Answerer.answers x written (s.unfinished.items ++ rest) s.answers.unwritten.items s.answers.lines s.answers.any_bad) all r)
    c.in_ok-extend_from_slice.ensures.items refl refl
